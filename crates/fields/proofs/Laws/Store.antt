-- A loop that writes elements as bytes at a moving place: what is still to be written onto the slice as it is gives what was to be
-- written onto it as it came. Once over the widths of what a turn writes.
use mathlib.Core.List.{List, [], ◌∷◌, ◌++◌, append_assoc, append-nil}
use mathlib.Core.Path.{◌≡◌, refl, sym, ap, ◌∙◌}
use Prim.Native.Nat.{ℕ, suc, ◌+◌, ◌-◌, ◌*◌, ◌%◌, ◌^◌, ◌≤◌, ◌<◌}
use lib.ListN.{length, get_or, take, drop, replicate, length-append, length-drop}
use lib.Seq.{sets, take_all, drop-drop, drop-cons, length-sets}
use native.Mathlib.Nat.{mul-suc, add_assoc, one-mul}
use native.Mathlib.Omega.{arith}
use Rattle.fields.proofs.Laws.Put.{sets_append, repeat_cons}
use Rattle.laws.proofs.Base.Numbers.{length-bytes}
use Rattle.layout.specs.Bytes.{bytes, field, stored_all, repeat, total}
use Rattle.layout.specs.Shared.Texts.{padded}
use Rattle.fields.proofs.Laws.Low.{bytes_low}

stored-none : (ws : List ℕ) → stored_all ws [] ≡ []
stored-none [] = refl
stored-none (w ∷ ws) = refl

stored_append : (v ws xs : List ℕ) → stored_all (v ++ ws) xs ≡ stored_all v xs ++ stored_all ws (drop (length v) xs)
stored_append [] ws xs = refl
stored_append (u ∷ v) ws [] = sym (stored-none ws)
stored_append (u ∷ v) ws (x ∷ xs) = rw (stored_append v ws xs, append_assoc) refl

length-stored : (ws xs : List ℕ) → length ws ≤ length xs → length (stored_all ws xs) ≡ total ws
length-stored [] xs h = refl
length-stored (w ∷ ws) [] h = absurd (omega arith)
length-stored (w ∷ ws) (x ∷ xs) h = rw (length-append, length-bytes, length-stored ws xs (omega arith))

-- a turn writes one group of elements of the widths ws
module _ (ws xs : List ℕ) (at n w : ℕ) (out₀ : List ℕ) where
  pub record Storing (i : ℕ) (out : List ℕ) : Type 0 where
    pub len : length out ≡ length out₀
    pub le : i ≤ n
    pub eq : sets out₀ w (stored_all (repeat n ws) (drop at xs)) ≡ sets out (w + total ws * i) (stored_all (repeat (n - i) ws) (drop (at + length ws * i) xs))

  pub store_turn : (i : ℕ) (out out' : List ℕ) → Storing i out → i < n → at + length ws * i + length ws ≤ length xs
      → out' ≡ sets out (w + total ws * i) (stored_all ws (drop (at + length ws * i) xs)) → Storing (i + 1) out'
  store_turn i out out' g h fits e =
      let ys : List ℕ = drop (at + length ws * i) xs in
      let m : n - i - 1 ≡ n - (i + 1) = omega arith in
      let j : i + 1 ≡ suc i = omega arith in
      let q : at + length ws * i + length ws ≡ at + length ws * (i + 1) = rw (j, mul-suc) (omega arith) in
      let r : w + total ws * i + total ws ≡ w + total ws * (i + 1) = rw (j, mul-suc) (omega arith) in
      let l : length (stored_all ws ys) ≡ total ws = length-stored ws ys (omega (arith, length-drop (at + length ws * i) xs)) in
      let split : stored_all (repeat (n - i) ws) ys ≡ stored_all ws ys ++ stored_all (repeat (n - (i + 1)) ws) (drop (at + length ws * (i + 1)) xs) =
      ap (λ v. stored_all v ys) (repeat_cons (n - i) ws (omega arith)) ∙ stored_append ws (repeat (n - i - 1) ws) ys ∙ rw (m, drop-drop, q) refl in
      record {
        len = rw e (length-sets out (w + total ws * i) (stored_all ws ys) ∙ g.len);
        le = omega arith;
        eq = g.eq ∙ rw (split, sets_append, l, ← e, r) refl;
      }

-- elements of one width: a turn writes one, as a number v that has the same low bytes
module _ (k : ℕ) (xs : List ℕ) (at n w : ℕ) (out₀ : List ℕ) where
  pub store_one : (i : ℕ) (out out' : List ℕ) (v : ℕ) → Storing (k ∷ []) xs at n w out₀ i out → i < n → at + n ≤ length xs
      → bytes k v ≡ bytes k (get_or xs (at + i) 0) → out' ≡ sets out (w + k * i) (bytes k v) → Storing (k ∷ []) xs at n w out₀ (i + 1) out'
  store_one i out out' v g h fits low e =
      let there : drop (at + i) xs ≡ get_or xs (at + i) 0 ∷ drop (suc (at + i)) xs = drop-cons xs (at + i) 0 (omega arith) in
      let one : total (k ∷ []) ≡ k = omega arith in
      store_turn (k ∷ []) xs at n w out₀ i out out' g h (omega arith) (rw (one, one-mul, there, append-nil, ← low) e)

-- three elements, one after another, each as a number that has the same low bytes
pub store_three : (a b k : ℕ) (xs : List ℕ) (o p x y z : ℕ) (out₀ out₁ out₂ out₃ : List ℕ) → p + 3 ≤ length xs → x ≡ get_or xs p 0 % 256 ^ a
    → y ≡ get_or xs (p + 1) 0 % 256 ^ b → z ≡ get_or xs (p + 2) 0 % 256 ^ k → out₁ ≡ sets out₀ o (bytes a x) → out₂ ≡ sets out₁ (o + a) (bytes b y)
    → out₃ ≡ sets out₂ (o + (a + b)) (bytes k z) → out₃ ≡ sets out₀ o (stored_all (a ∷ b ∷ k ∷ []) (drop p xs))
store_three a b k xs o p x y z out₀ out₁ out₂ out₃ h ex ey ez e₁ e₂ e₃ =
    let p1 : p + 1 ≡ suc p = omega arith in
    let p2 : p + 2 ≡ suc (suc p) = omega arith in
    let there : drop p xs ≡ get_or xs p 0 ∷ get_or xs (p + 1) 0 ∷ get_or xs (p + 2) 0 ∷ drop (suc (suc (suc p))) xs =
    rw (p1, p2, drop-cons xs p 0 (omega arith), drop-cons xs (suc p) 0 (omega arith), drop-cons xs (suc (suc p)) 0 (omega arith)) refl in
    rw (
      there,
      append-nil,
      sets_append,
      sets_append,
      length-bytes,
      length-bytes,
      e₃,
      e₂,
      e₁,
      ex,
      ey,
      ez,
      bytes_low a (get_or xs p 0),
      bytes_low b (get_or xs (p + 1) 0),
      bytes_low k (get_or xs (p + 2) 0),
      ← add_assoc,
    ) refl

-- a text, and then zeros, of which the first ends the text
pub text-zeros : (out text : List ℕ) (w width : ℕ) → length text < width
    → sets (sets out w (take (length text) (drop 0 text))) (w + length text) (replicate (width - length text) 0)
    ≡ sets out w (padded (field w width) text)
text-zeros out text w width h =
    let n : width - length text ≡ suc (width - (length text + 1)) = omega (arith, h) in
    rw (take_all (length text) text (omega arith), n, sets_append) refl
