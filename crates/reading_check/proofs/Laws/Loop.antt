-- The loop over pieces one after another, once for all such loops: the invariant `Same`, where it starts, a turn of it, its two ways out.
use mathlib.Core.List.{List}
use mathlib.Core.Path.{◌≡◌, refl, sym, ap, ◌∙◌}
use Prim.Native.Nat.{ℕ, zero, suc, ◌+◌, ◌-◌, ◌^◌, ◌≤◌, ◌<◌}
use lib.ListN.{length, take, drop, length-drop}
use lib.Seq.{drop-drop}
use native.Mathlib.Nat.{add_assoc, add-zero}
use native.Mathlib.Omega.{arith}
use Rattle.reading_check.proofs.Laws.Shown.{next, plus, plus-plus, plus_none, times-shown, times_split}
use Rattle.reading_check.specs.Tally.{none, add, tally, shown, Small, Within, WithinT}
use Rattle.reading_check.specs.declared.tally.Tally.{Tally}
use Rattle.fields.proofs.Laws.Lists.{rest_is}
use Rattle.layout.specs.Sheet.{Table}
use Rattle.layout.specs.Walk.{Reader, times}
use Rattle.layout.specs.Writing.Tables.{joined}
use Rattle.layout.specs.declared.Refusal.{Refusal}
use Rattle.std.specs.Prelude.{Result, Ok, Err}

pub within-fine : (n e : ℕ) (r : Result Tally Refusal) (t : Tally) → r ≡ Ok t → Within n e r → WithinT n e t
within-fine n e r t g w = rw g at w

-- what a function says of the rest of a slice
pub rest-within : (k e : ℕ) (xs : List ℕ) (r : Result Tally Refusal) → Within (length (take (length xs - k) (drop k xs))) e r
    → (z : Tally) → r ≡ Ok z → WithinT (length xs - k) e z
rest-within k e xs r w z g = let s : Within (length xs - k) e r = rw (rest_is, length-drop) at w in within-fine (length xs - k) e r z g s

-- the counts stay within the slice: what the step's function says of what is left, for the sum and for the next turn
module _ (xs : List ℕ) (acc : Tally) (within : WithinT (length xs) 0 acc) (r : Result Tally Refusal)
    (fits : Within (length (take (length xs - acc.used) (drop acc.used xs))) 0 r) (z : Tally) (e : r ≡ Ok z) where
  small : WithinT (length xs - acc.used) 0 z
  small = rest-within acc.used 0 xs r fits z e

  pub sum_ok : length xs < 2 ^ 32 → Small (add acc z)
  sum_ok l = omega (arith, small)

  pub within-turn : (acc' : Tally) → acc' ≡ add acc z → WithinT (length xs) 0 acc'
  within-turn acc' a = rw a (omega (arith, small))

module _ {A : Type 0} (f : A → Table) (r : Reader A) (p : ℕ) (xs : List ℕ) (y : ℕ) where
  -- what is still to be answered, with left of them to go and the counts acc of those behind: the same from turn to turn
  abbrev pub Rest : ℕ → Tally → Result Tally Refusal
  Rest left acc = plus acc (shown (tally (joined f)) y (times left r (p + acc.used) (drop acc.used xs)))

  rest-start : (n : ℕ) → shown (tally (joined f)) y (times n r p xs) ≡ Rest n none
  rest-start n = simp add-zero (sym (plus_none (shown (tally (joined f)) y (times n r p xs))))

  rest_done : (left : ℕ) (acc : Tally) → left ≤ 0 → Rest left acc ≡ Ok acc
  rest_done zero acc h = simp add-zero
  rest_done (suc m) acc h = absurd (omega arith)

  -- what comes after v, with the counts of v added to acc
  rest-after : (m : ℕ) (acc : Tally) (v : Result Tally Refusal)
      → plus acc (next v (λ z. plus z (shown (tally (joined f)) y (times m r (p + acc.used + z.used) (drop z.used (drop acc.used xs))))))
      ≡ next v (λ z. Rest m (add acc z))
  rest-after m acc (Ok z) =
      simp (add_assoc, drop-drop)
      (sym (plus-plus acc z (shown (tally (joined f)) y (times m r (p + (acc.used + z.used)) (drop (acc.used + z.used) xs)))))
  rest-after m acc (Err q) = refl

  rest_suc : (m : ℕ) (acc : Tally) (k : Result Tally Refusal) → k ≡ shown (tally f) y (r (p + acc.used) (drop acc.used xs))
      → Rest (suc m) acc ≡ next k (λ z. Rest m (add acc z))
  rest_suc m acc k e = rw (times-shown y f r m (p + acc.used) (drop acc.used xs), ← e) (rest-after m acc k)

  rest-turn : (left : ℕ) (acc : Tally) (k : Result Tally Refusal) → 0 < left → k ≡ shown (tally f) y (r (p + acc.used) (drop acc.used xs))
      → Rest left acc ≡ next k (λ z. Rest (left - 1) (add acc z))
  rest-turn zero acc k h e = absurd (omega arith)
  rest-turn (suc m) acc k h e = let q : suc m - 1 ≡ m = omega arith in rw q (rest_suc m acc k e)

  -- k pieces at once
  rest_batch : (k m : ℕ) (acc : Tally) (v : Result Tally Refusal) → v ≡ shown (tally (joined f)) y (times k r (p + acc.used) (drop acc.used xs))
      → Rest (k + m) acc ≡ next v (λ z. Rest m (add acc z))
  rest_batch k m acc v e = rw (times_split y f r k m (p + acc.used) (drop acc.used xs), ← e) (rest-after m acc v)

module _ {A : Type 0} (f : A → Table) (r : Reader A) (n p : ℕ) (xs : List ℕ) (y : ℕ) where
  -- with left of the n to go, and acc the counts of those behind, the answer of the whole is the answer of the rest with acc added
  pub record Same (left : ℕ) (acc : Tally) : Type 0 where
    pub eq : shown (tally (joined f)) y (times n r p xs) ≡ Rest f r p xs y left acc

  pub same_start : (m : ℕ) → m ≡ n → Same m none
  same_start m h = rw h record { eq = rest-start f r p xs y n }

  pub same_done : (left : ℕ) (acc : Tally) → Same left acc → left ≤ 0 → Ok acc ≡ shown (tally (joined f)) y (times n r p xs)
  same_done left acc g h = sym (g.eq ∙ rest_done f r p xs y left acc h)

  -- k is what the step's function answers of what is left of the slice
  module _ (left : ℕ) (acc : Tally) (g : Same left acc) (h : 0 < left) (k : Result Tally Refusal)
      (means : k ≡ shown (tally f) y (r (p + acc.used) (take (length xs - acc.used) (drop acc.used xs)))) where
    turn : shown (tally (joined f)) y (times n r p xs) ≡ next k (λ z. Rest f r p xs y (left - 1) (add acc z))
    turn = g.eq ∙ rest-turn f r p xs y left acc k h (rw rest_is at means)

    pub same_stop : (q : Refusal) → k ≡ Err q → Err q ≡ shown (tally (joined f)) y (times n r p xs)
    same_stop q e = sym (rw e at turn)

    pub same_turn : (z : Tally) → k ≡ Ok z → (acc' : Tally) → acc' ≡ add acc z → (m : ℕ) → m ≡ left - 1 → Same m acc'
    same_turn z e acc' a m i = rw (a, i) (record { eq = rw e at turn })

  -- v is what a function answers of the next k pieces
  module _ (left : ℕ) (acc : Tally) (g : Same left acc) (k : ℕ) (h : k ≤ left) (v : Result Tally Refusal)
      (means : v ≡ shown (tally (joined f)) y (times k r (p + acc.used) (take (length xs - acc.used) (drop acc.used xs)))) where
    batch : shown (tally (joined f)) y (times n r p xs) ≡ next v (λ z. Rest f r p xs y (left - k) (add acc z))
    batch =
        let e : left ≡ k + (left - k) = omega arith in
        g.eq ∙ ap (λ i. Rest f r p xs y i acc) e ∙ rest_batch f r p xs y k (left - k) acc v (rw rest_is at means)

    pub batch_stop : (q : Refusal) → v ≡ Err q → Err q ≡ shown (tally (joined f)) y (times n r p xs)
    batch_stop q e = sym (rw e at batch)

    pub batch_turn : (z : Tally) → v ≡ Ok z → (acc' : Tally) → acc' ≡ add acc z → Same (left - k) acc'
    batch_turn z e acc' a = rw a (record { eq = rw e at batch })

-- more bytes at hand
pub within_more : (a b e : ℕ) (r : Result Tally Refusal) → a ≤ b → Within a e r → Within b e r
within_more a b e (Ok z) h w = omega (arith, w)
within_more a b e (Err q) h w = tt
