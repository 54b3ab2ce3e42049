-- The loop over pieces up to the end of their bytes, without fuel: what a turn does, and when it is done.
use mathlib.Core.List.{List, [], ◌∷◌}
use mathlib.Core.Path.{◌≡◌, refl, sym, ap, ◌∙◌}
use Prim.Native.Nat.{ℕ, ◌+◌, ◌-◌, ◌≤◌, ◌<◌}
use lib.ListN.{length, take, drop, length-drop, drop_of_length-le}
use lib.Seq.{drop-drop}
use native.Mathlib.Nat.{add_assoc, add-zero}
use native.Mathlib.Omega.{arith}
use Rattle.reading_check.proofs.Laws.Shown.{next, plus, plus-plus, plus_none, shown-plus, tally-join}
use Rattle.reading_check.specs.Tally.{none, add, tally, tally_of, shown}
use Rattle.reading_check.specs.declared.tally.Tally.{Tally}
use Rattle.fields.proofs.Laws.Lists.{rest_is}
use Rattle.layout.specs.Answers.Calls.{and_then}
use Rattle.layout.specs.Sheet.{Table}
use Rattle.layout.specs.Walk.{Walk, Answer, given, refused, answer, up_to, ends, ◌>>=◌, Piece, Reader, filling, fill}
use Rattle.layout.specs.Writing.Tables.{join, joined}
use Rattle.layout.specs.declared.Refusal.{Refusal}
use Rattle.laws.proofs.Base.Readers.{Sized, filling_fuel}
use Rattle.laws.proofs.Base.Walks.{answer_bind}
use Rattle.std.specs.Prelude.{Result, Ok, Err}
use Rattle.layout.specs.Answers.Enums.{result_of}

-- the pieces of all n bytes
abbrev pub tallies : {A : Type 0} → (A → Table) → ℕ → List A → Tally
tallies f n l = tally_of n (joined f l)

module _ {A : Type 0} (f : A → Table) (r : Reader A) (y : ℕ) (s : Sized (up_to y) r) where
  abbrev after_first : List ℕ → ℕ → Tally → Result Tally Refusal
  after_first xs p z = plus z (shown (tallies f (length xs - z.used)) y (fill r (p + z.used) (drop z.used xs)))

  -- where there are bytes left, the first piece and then the rest
  fill_one : (p : ℕ) (xs : List ℕ) → 0 < length xs → shown (tallies f (length xs)) y (fill r p xs) ≡ next (shown (tally f) y (r p xs)) (after_first xs p)
  fill_one p [] h = absurd (omega arith)
  fill_one p (x ∷ xs) h =
      ap (result_of (tallies f (length (x ∷ xs)))) (answer_bind (up_to y) (r p (x ∷ xs)) one) ∙ go (answer (up_to y) (r p (x ∷ xs))) refl
    where
      one : Piece A → Walk (List A)
      one a = filling r (length xs) (p + a.size) (drop a.size (x ∷ xs)) >>= λ more. ends (a.value ∷ more)

      go : (v : Answer (Piece A)) → answer (up_to y) (r p (x ∷ xs)) ≡ v
          → result_of (tallies f (length (x ∷ xs))) (and_then v (λ a. answer (up_to y) (one a))) ≡ next (result_of (tally f) v) (after_first (x ∷ xs) p)
      go (given a) e =
          let z = s.sized p (x ∷ xs) a e in
          let l = length-drop a.size (x ∷ xs) in
          let n : length (x ∷ xs) ≡ a.size + (length (x ∷ xs) - a.size) = omega arith in
          let D : List ℕ = drop a.size (x ∷ xs) in
          shown-plus y (tallies f (length (x ∷ xs) - a.size)) (tallies f (length (x ∷ xs))) (filling r (length xs) (p + a.size) D) (λ more. a.value ∷ more)
          (tally f a)
          (λ more. ap (λ k. tally_of k (join (f a.value) (joined f more))) n
          ∙ tally-join a.size (length (x ∷ xs) - a.size) (f a.value) (joined f more))
          ∙ ap (λ t. plus (tally f a) (result_of (tallies f (length (x ∷ xs) - a.size)) t))
          (filling_fuel (up_to y) r s (length xs) (length D) (p + a.size) D (omega (arith, z, l)) (omega arith))
      go (refused n q z) e = refl

module _ {A : Type 0} (f : A → Table) (r : Reader A) (p : ℕ) (xs : List ℕ) (y : ℕ) where
  -- with acc the counts of those behind, the answer of the whole is the answer of the rest with acc added
  pub record Going (acc : Tally) : Type 0 where
    pub eq : shown (tallies f (length xs)) y (fill r p xs) ≡ plus acc
        (shown (tallies f (length xs - acc.used)) y (fill r (p + acc.used) (drop acc.used xs)))

  pub going_start : Going none
  going_start =
      let n : length xs - 0 ≡ length xs = omega arith in
      record { eq = rw (n, add-zero p) (sym (plus_none (shown (tallies f (length xs)) y (fill r p xs)))) }

  pub going_done : (acc : Tally) → Going acc → acc.used ≡ length xs → Ok acc ≡ shown (tallies f (length xs)) y (fill r p xs)
  going_done acc g h =
      let l : length xs ≤ acc.used = omega arith in
      let d : drop acc.used xs ≡ [] = drop_of_length-le xs l in
      let n : length xs - acc.used ≡ 0 = omega arith in
      let e : shown (tallies f (length xs)) y (fill r p xs) ≡ plus acc (Ok none) = g.eq ∙ rw (d, n) refl in
      sym (e ∙ simp add-zero)

  module _ (s : Sized (up_to y) r) (acc : Tally) (g : Going acc) (h : acc.used < length xs) (k : Result Tally Refusal)
      (means : k ≡ shown (tally f) y (r (p + acc.used) (take (length xs - acc.used) (drop acc.used xs)))) where
    abbrev left : List ℕ
    left = drop acc.used xs

    abbrev after : List ℕ → ℕ → Tally → Result Tally Refusal
    after ys q z = plus z (shown (tallies f (length ys - z.used)) y (fill r (q + z.used) (drop z.used ys)))

    here : k ≡ shown (tally f) y (r (p + acc.used) left)
    here = rw rest_is at means

    more : (z : Tally) → plus acc (plus z (shown (tallies f (length left - z.used)) y (fill r (p + acc.used + z.used) (drop z.used left))))
        ≡ plus (add acc z) (shown (tallies f (length xs - (acc.used + z.used))) y (fill r (p + (acc.used + z.used)) (drop (acc.used + z.used) xs)))
    more z =
        let n : length left - z.used ≡ length xs - (acc.used + z.used) = omega (arith, length-drop acc.used xs) in
        rw (n, add_assoc p acc.used z.used, drop-drop z.used acc.used xs)
        (sym (plus-plus acc z (shown (tallies f (length xs - (acc.used + z.used))) y (fill r (p + (acc.used + z.used)) (drop (acc.used + z.used) xs)))))

    turn : shown (tallies f (length xs)) y (fill r p xs)
        ≡ plus acc (next k (λ z. plus z (shown (tallies f (length left - z.used)) y (fill r (p + acc.used + z.used) (drop z.used left)))))
    turn =
        let n : length xs - acc.used ≡ length left = sym (length-drop acc.used xs) in
        let o = fill_one f r y s (p + acc.used) left (omega (arith, n)) in
        let e : shown (tallies f (length left)) y (fill r (p + acc.used) left) ≡ next k (after left (p + acc.used)) =
        o ∙ ap (λ t. next t (after left (p + acc.used))) (sym here) in
        g.eq ∙ rw n (ap (plus acc) e)

    pub going_stop : (q : Refusal) → k ≡ Err q → Err q ≡ shown (tallies f (length xs)) y (fill r p xs)
    going_stop q e = sym (rw e at turn)

    pub going_turn : (z : Tally) → k ≡ Ok z → (acc' : Tally) → acc' ≡ add acc z → Going acc'
    going_turn z e acc' a = rw a (record { eq = (rw e at turn) ∙ more z })

    -- each turn takes a byte at least
    pub going_less : (z : Tally) → k ≡ Ok z → 0 < z.used
    going_less z e = go (answer (up_to y) (r (p + acc.used) left)) refl (sym here ∙ e)
      where
        go : (v : Answer (Piece A)) → answer (up_to y) (r (p + acc.used) left) ≡ v → result_of (tally f) v ≡ Ok z → 0 < z.used
        go (given a) i j =
            let q : tally f a ≡ z = cc in
            let l : 0 < a.size = (s.sized (p + acc.used) left a i).0 in
            omega (arith, ap (λ (t : Tally). t.used) q)
        go (refused n q w) i j = let z : ◌≡◌ {A = ℕ} 0 1 = cc in absurd (omega arith)
