-- A test that is computed once over a whole table holds at each of its entries.
use mathlib.Core.Bool.{Bool, true, false, ◌&&◌}
use mathlib.Core.List.{List, [], ◌∷◌}
use mathlib.Core.Path.{◌≡◌, ◌∙◌, subst, sym}
use Prim.Native.Nat.{ℕ, zero, suc, ◌+◌, ◌<◌}
use native.Mathlib.Nat.{add-zero, zero-add, add-suc, suc-add, le_of_suc-le-suc, not-suc-le-zero}
use lib.ListN.{length, get_or}
use Rattle.laws.proofs.Base.Lists.{both_true}

-- the test holds of each entry of the list and its index, counted from i
abbrev pub every : (ℕ → ℕ → Bool) → ℕ → List ℕ → Bool
every test i [] = true
every test i (x ∷ xs) = test i x && every test (suc i) xs

from : (test : ℕ → ℕ → Bool) (xs : List ℕ) (d i : ℕ) → every test i xs ≡ true → (k : ℕ) → k < length xs → test (i + k) (get_or xs k d) ≡ true
from test [] d i e k h = absurd (not-suc-le-zero h)
from test (x ∷ xs) d i e zero h = subst (λ m. test m x ≡ true) (sym (add-zero i)) (both_true (test i x) (every test (suc i) xs) e).0
from test (x ∷ xs) d i e (suc k) h =
    subst (λ m. test m (get_or xs k d) ≡ true) (suc-add i k ∙ sym (add-suc i k))
    (from test xs d (suc i) (both_true (test i x) (every test (suc i) xs) e).1 k (le_of_suc-le-suc h))

pub entry : (test : ℕ → ℕ → Bool) (xs : List ℕ) (d : ℕ) → every test 0 xs ≡ true → (k : ℕ) → k < length xs → test k (get_or xs k d) ≡ true
entry test xs d e k h = subst (λ m. test m (get_or xs k d) ≡ true) (zero-add k) (from test xs d 0 e k h)
