-- Pieces taken from a table: a taker takes exactly what flattening makes, and so do takers made of takers.
use mathlib.Core.Bool.{Bool}
use mathlib.Core.List.{List, [], ◌∷◌, append_assoc}
use mathlib.Core.Path.{◌≡◌, refl, ap, sym, ◌∙◌, subst}
use Prim.Native.Nat.{ℕ, zero, suc, ◌+◌, ◌*◌, ◌≤◌, ◌<◌}
use lib.ListN.{length, length-append}
use native.Mathlib.Nat.{zero-mul, suc-mul}
use native.Mathlib.Omega.{arith}
use Rattle.layout.specs.Bytes.{All, Bytes, flat}
use Rattle.layout.specs.Sheet.{Table}
use Rattle.layout.specs.Walk.{given, answer}
use Rattle.layout.specs.Writing.Tables.{table, join, joined, Taken, taken, Taker, many}
use Rattle.laws.proofs.Base.Lists.{all_append}
use Rattle.laws.proofs.Base.Walks.{given_inj, bind_case, bind_on, Allowed, allowed_append}

pub join_assoc : (a b c : Table) → join (join a b) c ≡ join a (join b c)
join_assoc a b c = λ j. table
    (append_assoc a.numbers b.numbers c.numbers j)
    (append_assoc a.elements b.elements c.elements j)
    (append_assoc a.bytes b.bytes c.bytes j)

-- three paths make one
pub table_path : (a b : Table) → a.numbers ≡ b.numbers → a.elements ≡ b.elements → a.bytes ≡ b.bytes → a ≡ b
table_path a b n e p = λ j. table (n j) (e j) (p j)

-- what is left of a pool of bytes is bytes
pub left-bytes : (a r t : Table) → join a r ≡ t → Bytes t.bytes → Bytes r.bytes
left-bytes a r t e b = ((all_append (λ x. x < 256) a.bytes r.bytes).0 (subst (λ u. Bytes u.bytes) (sym e) b)).1

pub left-numbers : (a r t : Table) → join a r ≡ t → length t.numbers ≡ length a.numbers + length r.numbers
left-numbers a r t e = ap (λ u. length u.numbers) (sym e) ∙ length-append a.numbers r.numbers

-- what a taker took from t
abbrev pub Took : {A : Type 0} → (ℕ → Bool) → (A → Table) → (A → Type 0) → (A → List ℕ) → Table → Taken A → Type 0
Took al E F Y t v = F v.value × Allowed al (Y v.value) × (join (E v.value) v.left ≡ t)

-- a taker takes exactly what E flattens of the values that are F, where k numbers are left; Y lists the years of what it comes upon
pub record Takes {A : Type 0} (al : ℕ → Bool) (k : ℕ) (r : Taker A) (E : A → Table) (F : A → Type 0) (Y : A → List ℕ) : Type 0 where
  pub sound : (i : ℕ) (t : Table) → k ≤ length t.numbers → Bytes t.bytes → (v : Taken A) → answer al (r i t) ≡ given v → Took al E F Y t v
  pub complete : (i : ℕ) (a : A) (rest : Table) → F a → Allowed al (Y a) → answer al (r i (join (E a) rest)) ≡ given (taken a rest)

-- pieces of k numbers each
pub length-joined : {A : Type 0} (k : ℕ) (E : A → Table) → ((a : A) → length (E a).numbers ≡ k) → (l : List A)
    → length (joined E l).numbers ≡ length l * k
length-joined k E size [] = sym (zero-mul k)
length-joined k E size (a ∷ l) = rw (length-append, size a, length-joined k E size l, suc-mul) (omega arith)

module _ {A : Type 0} (al : ℕ → Bool) (k : ℕ) (r : Taker A) (E : A → Table) (F : A → Type 0) (Y : A → List ℕ) (T : Takes al k r E F Y)
    (size : (a : A) → length (E a).numbers ≡ k) where
  many-sound : (n i : ℕ) (t : Table) → n * k ≤ length t.numbers → Bytes t.bytes → (v : Taken (List A)) → answer al (many n k r i t) ≡ given v
      → Took al (joined E) (λ l. (length l ≡ n) × All F l) (flat Y) t v
  many-sound zero i t h b v e = rw (← (given_inj e)) ((refl, tt), tt, refl)
  many-sound (suc n) i t h b v e =
      bind_case al (r i t) _ v e λ u j g.
      bind_case al (many n k r (i + k) u.left) _ v g λ w q m.
      let c : suc n * k ≡ k + n * k = omega arith in
      let s = T.sound i t (omega (arith, c)) b u j in
      let l = left-numbers (E u.value) u.left t s.2 in
      let z = many-sound n (i + k) u.left (omega (arith, c, l, size u.value)) (left-bytes (E u.value) u.left t s.2 b) w q in
      rw (← (given_inj m)) (
        (ap suc z.0.0, (s.0, z.0.1)),
        (allowed_append al (Y u.value) (flat Y w.value)).1 (s.1, z.1),
        join_assoc (E u.value) (joined E w.value) w.left ∙ ap (λ x. join (E u.value) x) z.2 ∙ s.2,
      )

  many-complete : (i : ℕ) (l : List A) (rest : Table) → All F l → Allowed al (flat Y l)
      → answer al (many (length l) k r i (join (joined E l) rest)) ≡ given (taken l rest)
  many-complete i [] rest f y = refl
  many-complete i (a ∷ l) rest f y =
      let z = (allowed_append al (Y a) (flat Y l)).0 y in
      let x = join (joined E l) rest in
      ap (λ u. answer al (many (suc (length l)) k r i u)) (join_assoc (E a) (joined E l) rest)
      ∙ bind_on al (r i (join (E a) x)) _ (taken a x) (T.complete i a x f.0 z.0)
      ∙ bind_on al (many (length l) k r (i + k) x) _ (taken l rest) (many-complete (i + k) l rest f.1 z.1)

  -- n pieces, one after another
  pub many_takes : (n : ℕ) → Takes al (n * k) (many n k r) (joined E) (λ l. (length l ≡ n) × All F l) (flat Y)
  many_takes n = record {
    sound = many-sound n;
    complete = λ i l rest f y.
        subst (λ m. answer al (many m k r i (join (joined E l) rest)) ≡ given (taken l rest)) f.0 (many-complete i l rest f.1 y);
  }
