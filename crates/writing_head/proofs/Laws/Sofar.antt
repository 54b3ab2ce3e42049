-- Bytes that are written one after another from a place on.
use mathlib.Core.List.{List, ◌∷◌, ◌++◌, append_assoc}
use mathlib.Core.Path.{◌≡◌, sym, ap, ◌∙◌}
use Prim.Native.Nat.{ℕ, ◌+◌, ◌-◌, ◌<◌}
use lib.ListN.{length, take, drop, length-append, replicate, length-replicate}
use lib.Seq.{sets, take_all}
use native.Mathlib.Omega.{arith}
use Rattle.fields.proofs.Laws.Put.{sets_append}
use Rattle.writing_head.specs.Heads.{start_bytes, name_bytes, descriptor_bytes, clean_head}
use Rattle.layout.specs.Layout.Encode.{encode_head}
use Rattle.layout.specs.Bytes.{Field, stored}
use Rattle.layout.specs.Fields.Descriptor
use Rattle.layout.specs.Fields.Passport
use Rattle.layout.specs.Shared.Texts.{padded}
use Rattle.layout.specs.Sheet.{Head}
use Rattle.laws.proofs.Base.Numbers.{length-bytes}

-- xs stand from w on, up to the place p
pub record Sofar (o : List ℕ) (w : ℕ) (xs : List ℕ) (p : ℕ) (now : List ℕ) : Type 0 where
  pub is : now ≡ sets o w xs
  pub len : w + length xs ≡ p

pub first : (o : List ℕ) (w : ℕ) (a : List ℕ) (k : ℕ) (o' : List ℕ) → length a ≡ k → o' ≡ sets o w a → Sofar o w a (w + k) o'
first o w a k o' l e = record { is = e; len = omega (arith, l) }

pub next : {o : List ℕ} {w : ℕ} {xs : List ℕ} {p : ℕ} {o' : List ℕ} → Sofar o w xs p o' → (a : List ℕ) (k : ℕ) (o'' : List ℕ) → length a ≡ k → o'' ≡ sets o' p a
    → Sofar o w (xs ++ a) (p + k) o''
next {o = o} {w = w} {xs = xs} {p = p} s a k o'' l e =
    record {
      is = e ∙ ap (λ u. sets u p a) s.is ∙ ap (λ q. sets (sets o w xs) q a) (sym s.len) ∙ sym (sets_append o w xs a);
      len = omega (arith, length-append xs a, s.len, l);
    }

-- a text with its clean tail fills its field
pub padded-length : (f : Field) (t : List ℕ) → length t < f.width → length (padded f t) ≡ f.width
padded-length f t h =
    let n = f.width - (length t + 1) in
    omega (arith, length-append t (0 ∷ replicate n 0), length-replicate {A = ℕ} n 0, h)

-- all of a list, as a copy takes it
pub whole : (xs : List ℕ) (n : ℕ) → length xs ≡ n → take n (drop 0 xs) ≡ xs
whole xs n e = take_all n xs (omega (arith, e))

-- the three parts of a head
regroup : (a b c d e f g h i j k l m n o : List ℕ)
    → (a ++ b ++ c ++ d ++ e) ++ (f ++ g ++ h ++ i) ++ (j ++ k ++ l ++ m ++ n ++ o)
    ≡ a ++ b ++ c ++ d ++ e ++ f ++ g ++ h ++ i ++ j ++ k ++ l ++ m ++ n ++ o
regroup a b c d e f g h i j k l m n o = simp append_assoc

pub head-parts : (h : Head) (count : ℕ)
    → start_bytes h.date ++ name_bytes h.designation h.scale h.title h.rest ++ descriptor_bytes h.designation2 count h.carried
    ≡ clean_head h count
unfolding encode_head
head-parts h count =
    regroup (stored Passport.identifier Passport.identifier_is) (stored Passport.own_length Passport.own_length_is)
    (stored Passport.edition Passport.edition_is) (stored Passport.sum 0) (padded Passport.date h.date)
    (padded Passport.designation h.designation) (stored Passport.scale h.scale) (padded Passport.title h.title) h.rest
    (stored Descriptor.identifier Descriptor.identifier_is) (stored Descriptor.own_length Descriptor.own_length_is)
    (padded Descriptor.designation h.designation2) (stored Descriptor.count count) h.carried (replicate (Descriptor.reserved).width 0)

pub start-length : (date : List ℕ) → length date < 12 → length (start_bytes date) ≡ 28
start-length date h = omega (arith, padded-length Passport.date date h)

pub name_length : (designation : List ℕ) (scale : ℕ) (title rest : List ℕ) → length designation < 32 → length title < 32 → length rest ≡ 304
    → length (name_bytes designation scale title rest) ≡ 372
name_length designation scale title rest h k l =
    let D : List ℕ = padded Passport.designation designation in
    let S : List ℕ = stored Passport.scale scale in
    let T : List ℕ = padded Passport.title title in
    omega (
      arith,
      padded-length Passport.designation designation h,
      padded-length Passport.title title k,
      l,
      length-append (D ++ S ++ T) rest,
      length-append (D ++ S) T,
      length-append D S,
      length-bytes 4 scale,
    )

pub descriptor-length : (designation : List ℕ) (count : ℕ) (carried : List ℕ) → length designation < 32 → length carried ≡ 4
    → length (descriptor_bytes designation count carried) ≡ 52
descriptor-length designation count carried h l =
    let I : List ℕ = stored Descriptor.identifier Descriptor.identifier_is ++ stored Descriptor.own_length Descriptor.own_length_is in
    let D : List ℕ = padded Descriptor.designation designation in
    let C : List ℕ = stored Descriptor.count count in
    omega (
      arith,
      padded-length Descriptor.designation designation h,
      l,
      length-append (I ++ D ++ C ++ carried) (replicate 4 0),
      length-append (I ++ D ++ C) carried,
      length-append (I ++ D) C,
      length-append I D,
      length-bytes 4 count,
    )
