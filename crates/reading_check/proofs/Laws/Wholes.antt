-- A piece and then another, and pieces that fill their bytes.
use mathlib.Core.Bool.{Bool, true, false, cond}
use mathlib.Core.List.{List}
use mathlib.Core.Path.{◌≡◌, refl, sym, ◌∙◌}
use Prim.Native.Nat.{ℕ, ◌+◌, ◌-◌, ◌<◌}
use borrow.Author.Tests.{le-leb, lt-leb}
use lib.Dec.{leb}
use lib.ListN.{length, take, drop}
use native.Mathlib.Nat.{add-zero}
use native.Mathlib.Omega.{arith}
use Rattle.reading_check.proofs.Laws.Shown.{next, plus, shown_bind, shown-plus, tally-join}
use Rattle.reading_check.specs.Tally.{tally, tally_of, shown}
use Rattle.reading_check.specs.declared.tally.Tally.{Tally}
use Rattle.fields.proofs.Laws.Lists.{rest_is}
use Rattle.layout.specs.Answers.Enums.{refusal}
use Rattle.layout.specs.Sheet.{Table}
use Rattle.layout.specs.Walk.{ends, stops, ◌>>◌, Piece, Pair, pair, whole, Reader}
use Rattle.layout.specs.Writing.Tables.{join}
use Rattle.layout.specs.declared.Refusal.{Refusal}
use Rattle.std.specs.Prelude.{Result, Ok, Err}
use Rattle.layout.specs.declared.refusals.Reason.{Reason}

module _ {A B : Type 0} (y : ℕ) (f : A → Table) (g : B → Table) (r : Reader A) (s : Reader B) (p : ℕ) (xs : List ℕ) where
  abbrev both : Pair A B → Table
  both v = join (f v.first) (g v.second)

  pair-shown : shown (tally both) y (pair r s p xs)
      ≡ next (shown (tally f) y (r p xs)) (λ z. plus z (shown (tally g) y (s (p + z.used) (drop z.used xs))))
  pair-shown = shown_bind y (tally f) (tally both) (r p xs) _ _ (λ a. shown-plus y (tally g) (tally both) (s (p + a.size) (drop a.size xs)) _ (tally f a)
      (λ b. tally-join a.size b.size (f a.value) (g b.value)))

  module _ (k : Result Tally Refusal) (e : k ≡ shown (tally f) y (r p xs)) where
    pub pair-stop : (q : Refusal) → k ≡ Err q → Err q ≡ shown (tally (λ (v : Pair A B). join (f v.first) (g v.second))) y (pair r s p xs)
    pair-stop q h = let i : Err q ≡ shown (tally f) y (r p xs) = sym h ∙ e in sym (pair-shown ∙ rw (← i) refl)

    pub pair_then : (z : Tally) → k ≡ Ok z → (m : Result Tally Refusal) → m ≡ shown (tally g) y (s (p + z.used) (take (length xs - z.used) (drop z.used xs)))
        → plus z m ≡ shown (tally (λ (v : Pair A B). join (f v.first) (g v.second))) y (pair r s p xs)
    pair_then z h m i =
        let j : Ok z ≡ shown (tally f) y (r p xs) = sym h ∙ e in
        let l : m ≡ shown (tally g) y (s (p + z.used) (drop z.used xs)) = rw rest_is at i in
        sym (pair-shown ∙ rw (← j, ← l) refl)

module _ {A : Type 0} (y : ℕ) (f : A → Table) (n : Reason) (r : Reader A) (p : ℕ) (xs : List ℕ) (k : Result Tally Refusal) (e : k ≡ shown (tally f) y (r p xs)) where
  abbrev all : A → Tally
  all v = tally_of (length xs) (f v)

  abbrev close : Bool → Tally → Result Tally Refusal
  close b z = cond b (Ok (record { used = length xs; numbers = z.numbers; elements = z.elements; bytes = z.bytes })) (Err (refusal n (p + z.used) 0))

  close-is : (a : Piece A) (b : Bool) → shown all y (cond b (ends tt) (stops n (p + a.size + 0)) >> ends a.value) ≡ close b (tally f a)
  close-is a true = refl
  close-is a false = simp add-zero

  whole-shown : shown all y (whole n r p xs) ≡ next (shown (tally f) y (r p xs)) (λ z. close (leb (length xs) z.used) z)
  whole-shown = shown_bind y (tally f) all (r p xs) _ _ (λ a. close-is a (leb (length xs) a.size))

  pub whole-stop : (q : Refusal) → k ≡ Err q → Err q ≡ shown (λ v. tally_of (length xs) (f v)) y (whole n r p xs)
  whole-stop q h = let i : Err q ≡ shown (tally f) y (r p xs) = sym h ∙ e in sym (whole-shown ∙ rw (← i) refl)

  module _ (z : Tally) (h : k ≡ Ok z) where
    at : shown all y (whole n r p xs) ≡ close (leb (length xs) z.used) z
    at = let i : Ok z ≡ shown (tally f) y (r p xs) = sym h ∙ e in whole-shown ∙ rw (← i) refl

    pub whole-left : z.used < length xs → Err (refusal n (p + z.used) 0) ≡ shown (λ v. tally_of (length xs) (f v)) y (whole n r p xs)
    whole-left l = sym (at ∙ rw (lt-leb (length xs) z.used l) refl)

    pub whole-fine : z.used ≡ length xs → Ok z ≡ shown (λ v. tally_of (length xs) (f v)) y (whole n r p xs)
    whole-fine l = sym (at ∙ rw (le-leb (length xs) z.used (omega arith), ← l) refl)
