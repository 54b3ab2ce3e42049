-- What a way of turning keeps to (`way::Way`), and that what a definition turns is a way. The laws are the ways out of `turned`, in their
-- order: of each what is answered, and what the lent slice then holds.
use Prim.Native.Nat.{ℕ, suc, ◌+◌, ◌<◌, ◌≤◌}
use mathlib.Core.Bool.{Bool, true, false, cond}
use mathlib.Core.List.{List, [], ◌∷◌, map}
use mathlib.Core.Logic.{◌≢◌}
use mathlib.Core.Path.{◌≡◌, refl, sym, ap, ◌∙◌}
use lib.ListN.{length, length-map}
use lib.Seq.{sets, sets-eq}
use native.Mathlib.Nat.{zero-add}
use native.Mathlib.Numerals.{one-add}
use native.Mathlib.Omega.{arith}
use Rattle.layout.specs.Answers.Calls.{lent}
use Rattle.layout.specs.Answers.Enums.{refusal, written_of}
use Rattle.layout.specs.Answers.Lent.{the_turned}
use Rattle.layout.specs.Codings.Turning.{first_of, lacks, turned}
use Rattle.layout.specs.Refusals.{ROOM, ASK, NO_CHARACTER}
use Rattle.layout.specs.Walk.{Answer}
use Rattle.laws.proofs.Codings.Turned.{turned-ask, turned-lacks, turned-short, turned-given}
use Rattle.std.proofs.lemmas.List.Recursion.{is_position_or_len}
use Rattle.std.specs.List.{position, position_or_len}
use Rattle.std.specs.Prelude.{Some, None, nat_lt}
use borrow.Author.Tests.{eqb-false, ltb-true, ltb-false}
use lib.Dec.{eqb}
use Rattle.layout.specs.declared.Refusal.{Refusal}
use Rattle.std.specs.Prelude.{Result, Ok, Err}

pub record WayLaws {W A B : Type 0} (answer : ℕ → List A → ℕ → Result ℕ Refusal) (left : ℕ → List A → List B → List B) (number : W → ℕ)
    (lacks : W → A → Bool) (turn : W → A → B) : Type 0 where
  pub asked : (c : ℕ) (xs : List A) (old : List B) → 2 < c
      → (answer c xs (length old) ≡ Err (refusal ASK 0 0)) × (left c xs old ≡ old)
  pub lacking : (w : W) (xs : List A) (old : List B) (i : ℕ) → position (lacks w) xs ≡ Some i
      → (answer (number w) xs (length old) ≡ Err (refusal NO_CHARACTER i 0)) × (left (number w) xs old ≡ old)
  pub short : (w : W) (xs : List A) (old : List B) → position (lacks w) xs ≡ None → length old < length xs
      → (answer (number w) xs (length old) ≡ Err (refusal ROOM 0 0)) × (left (number w) xs old ≡ old)
  pub whole : (w : W) (xs : List A) (old : List B) → position (lacks w) xs ≡ None → length xs ≤ length old
      → (answer (number w) xs (length old) ≡ Ok (length xs)) × (left (number w) xs old ≡ sets old 0 (map (turn w) xs))

first-position : (test : ℕ → Bool) (xs : List ℕ) → first_of test xs ≡ position_or_len test xs
unfolding first_of
first-position test xs = is_position_or_len (first_of test) test refl (λ x xs. simp one-add) xs

-- the place of the first of which the test holds, or none
first-Some : (test : ℕ → Bool) (xs : List ℕ) (i : ℕ) → position test xs ≡ Some i → (i ≡ first_of test xs) × (i < length xs)
first-Some test xs i e = go (nat_lt (position_or_len test xs) (length xs)) refl e
  where
    go : (b : Bool) → nat_lt (position_or_len test xs) (length xs) ≡ b → cond b (Some (position_or_len test xs)) None ≡ Some i
        → (i ≡ first_of test xs) × (i < length xs)
    go true h e =
        let is : position_or_len test xs ≡ i = cc in
        let lt = ltb-true _ _ h in
        (sym (first-position test xs ∙ is), omega (arith, is, lt))
    go false h e = absurd (cc)

first-None : (test : ℕ → Bool) (xs : List ℕ) → position test xs ≡ None → length xs ≤ first_of test xs
first-None test xs e = go (nat_lt (position_or_len test xs) (length xs)) refl e
  where
    go : (b : Bool) → nat_lt (position_or_len test xs) (length xs) ≡ b → cond b (Some (position_or_len test xs)) None ≡ None
        → length xs ≤ first_of test xs
    go true h e = absurd (cc)
    go false h e = let ge = ltb-false _ _ h in omega (arith, ge, first-position test xs)

-- what gives what f does on all that f turns gives the same list
map_same : (f g : ℕ → ℕ) (none : ℕ) → ((x : ℕ) → f x ≢ none → g x ≡ f x) → (xs : List ℕ) → length xs ≤ first_of (lacks f none) xs
    → map g xs ≡ map f xs
unfolding first_of
map_same f g none law [] h = refl
map_same f g none law (x ∷ xs) h = go (eqb (f x) none) refl h (map_same f g none law xs)
  where
    go : (b : Bool) → eqb (f x) none ≡ b → suc (length xs) ≤ cond b 0 (suc (first_of (lacks f none) xs))
        → (length xs ≤ first_of (lacks f none) xs → map g xs ≡ map f xs) → map g (x ∷ xs) ≡ map f (x ∷ xs)
    go true e h more = absurd (omega arith)
    go false e h more = rw (law x (eqb-false _ _ e), more (omega arith))

-- what f turns is a way for each `turn` that gives what f does, where that is something
pub turned_laws : {W : Type 0} (number : W → ℕ) (f : ℕ → ℕ → ℕ) (none : ℕ) (turn : W → ℕ → ℕ) → ((w : W) → number w ≤ 2)
    → ((w : W) (x : ℕ) → f (number w) x ≢ none → turn w x ≡ f (number w) x)
    → WayLaws (λ c xs room. written_of (turned (f c) none c xs room)) (λ c xs old. lent the_turned (turned (f c) none c xs (length old)) old)
    number (λ w. lacks (f (number w)) none) turn
unfolding written_of
turned_laws number f none turn good same =
    record {
      asked = λ c xs old h. both c xs old (turned-ask (f c) none c xs (length old) h);
      lacking = λ w xs old i e.
          let p = first-Some _ xs i e in
          both (number w) xs old (turned-lacks (f (number w)) none (number w) xs (length old) i p.0 (good w) p.1);
      short = λ w xs old e k.
          both (number w) xs old (turned-short (f (number w)) none (number w) xs (length old) _ refl (good w) (first-None _ xs e) k);
      whole = λ w xs old e k.
          let h = first-None _ xs e in
          let alike = map_same (f (number w)) (turn w) none (same w) xs h in
          let g = turned-given (f (number w)) none (number w) xs (length old) _ refl (good w) h k in
          let fits : 0 + length (map (f (number w)) xs) ≤ length old = omega (arith, length-map xs (f (number w)), k) in (
            ap written_of g ∙ ap Ok (length-map xs (f (number w))),
            ap (λ a. lent the_turned a old) g ∙ sym (rw alike (sets-eq (map (f (number w)) xs) old 0 fits ∙ rw zero-add refl)),
          );
    }
  where
    both : (c : ℕ) (xs old : List ℕ) {a : Answer (List ℕ)} → turned (f c) none c xs (length old) ≡ a
        → (written_of (turned (f c) none c xs (length old)) ≡ written_of a)
        × (lent the_turned (turned (f c) none c xs (length old)) old ≡ lent the_turned a old)
    both c xs old e = (ap written_of e, ap (λ a. lent the_turned a old) e)
