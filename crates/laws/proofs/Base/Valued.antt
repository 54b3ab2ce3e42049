-- Readers whose value is known without their tests.
use mathlib.Core.Bool.{Bool}
use mathlib.Core.List.{List, [], ◌∷◌}
use mathlib.Core.Path.{◌≡◌, sym, ap, ap₂, subst, ◌∙◌}
use Prim.Native.Nat.{ℕ, ◌+◌, ◌≤◌}
use lib.Dec.{leb}
use lib.ListN.{length, drop, length-drop}
use native.Mathlib.Omega.{arith}
use Rattle.layout.specs.Walk.{ends, given, answer, must, Piece, piece, Reader, pair, whole}
use Rattle.laws.proofs.Base.Walks.{given_inj, bind_case, checks_case}
use Rattle.layout.specs.declared.refusals.Reason.{Reason}

-- the reader r gives what `one` reads, of `size` bytes that are there
pub record Valued {A : Type 0} (al : ℕ → Bool) (r : Reader A) (one : List ℕ → A) (size : List ℕ → ℕ) : Type 0 where
  pub value : (p : ℕ) (xs : List ℕ) (v : Piece A) → answer al (r p xs) ≡ given v → (v ≡ piece (one xs) (size xs)) × (size xs ≤ length xs)

module _ {A : Type 0} (al : ℕ → Bool) (r : Reader A) (one : List ℕ → A) (size : List ℕ → ℕ) (R : Valued al r one size) where
  pub whole-value : (n : Reason) (p : ℕ) (xs : List ℕ) (a : A) → answer al (whole n r p xs) ≡ given a → (a ≡ one xs) × (size xs ≤ length xs)
  whole-value n p xs a e =
      bind_case al (r p xs) _ a e λ t h i.
      checks_case al (p + t.size) (must (leb (length xs) t.size) n 0 ∷ []) (ends t.value) a i λ c y g.
      let b = R.value p xs t h in
      (sym (given_inj g) ∙ ap (λ z. z.value) b.0, b.1)

  -- the walk itself, out of the whole
  pub whole_inner : {C : Type 0} (n : Reason) (p : ℕ) (xs : List ℕ) (a : A) → answer al (whole n r p xs) ≡ given a
      → ((t : Piece A) → answer al (r p xs) ≡ given t → C) → C
  whole_inner n p xs a e k = bind_case al (r p xs) _ a e λ t h i. k t h

pub pair_valued : {A B : Type 0} (al : ℕ → Bool) (r : Reader A) (one : List ℕ → A) (size : List ℕ → ℕ) → Valued al r one size
    → (q : Reader B) (other : List ℕ → B) (more : List ℕ → ℕ) → Valued al q other more
    → Valued al (pair r q) (λ xs. record { first = one xs; second = other (drop (size xs) xs) }) (λ xs. size xs + more (drop (size xs) xs))
pair_valued al r one size R q other more Q = record {
  value = λ p xs v e.
      bind_case al (r p xs) _ v e λ t h i.
      bind_case al (q (p + t.size) (drop t.size xs)) _ v i λ u j g.
      let a = R.value p xs t h in
      let b = Q.value (p + t.size) (drop t.size xs) u j in
      let s : t.size ≡ size xs = ap (λ z. z.size) a.0 in
      let c : u ≡ piece (other (drop (size xs) xs)) (more (drop (size xs) xs)) = subst (λ k. u ≡ piece (other (drop k xs)) (more (drop k xs))) s b.0 in
      let d : more (drop (size xs) xs) ≤ length (drop (size xs) xs) = subst (λ k. more (drop k xs) ≤ length (drop k xs)) s b.1 in (
        sym (given_inj g) ∙ ap₂ (λ x y. piece (record { first = x.value; second = y.value }) (x.size + y.size)) a.0 c,
        omega (arith, d, a.1, length-drop (size xs) xs),
      );
}
