-- Numbers as the library's methods read and write them, once over the width.
use mathlib.Core.List.{List, ◌∷◌}
use mathlib.Core.Path.{◌≡◌, refl, sym, ap, ap₂, ◌∙◌}
use Prim.Native.Nat.{ℕ, zero, suc, ◌+◌, ◌*◌, ◌/◌, ◌%◌, ◌^◌, ◌≤◌}
use borrow.Rule.Slice.PartMut.{put_mid}
use lib.ListN.{length, get_or, drop}
use lib.Seq.{sets}
use native.Mathlib.Nat.{div-div-eq-div-mul, pow-succ', mul_comm, pow-zero, add-zero}
use native.Mathlib.Omega.{arith}
use Rattle.std.specs.Int.{byte_at, byte_worth, bytes_low_first, sum_through}
use Rattle.fields.proofs.Laws.Lists.{number-one, number-join}
use Rattle.fields.proofs.Laws.Put.{part_wrote}
use Rattle.laws.proofs.Base.Numbers.{length-bytes}
use Rattle.layout.specs.Bytes.{number, bytes}

-- the bytes that stand from p on, each for what it is worth there
pub worth-number : (k : ℕ) (s : List ℕ) (p : ℕ) → sum_through (λ i. byte_worth i (get_or s (p + i) 0)) k ≡ number (suc k) (drop p s)
worth-number zero s p = rw add-zero (sym (number-one s p))
worth-number (suc k) s p =
    let j : suc k + 1 ≡ suc (suc k) = omega arith in
    let high : get_or s (p + suc k) 0 * 256 ^ suc k ≡ 256 ^ suc k * number 1 (drop (p + suc k) s) =
    ap (λ (b : ℕ). b * 256 ^ suc k) (sym (number-one s (p + suc k))) ∙ mul_comm (number 1 (drop (p + suc k) s)) (256 ^ suc k) in
    ap₂ (λ (a b : ℕ). a + b) (worth-number k s p) high ∙ sym (number-join (suc k) 1 s p) ∙ ap (λ n. number n (drop p s)) j

byte-there : (i v : ℕ) → byte_at i v ≡ v / 256 ^ i % 256
byte-there zero v = let e : v / 1 ≡ v = omega arith in rw (pow-zero, e) refl
byte-there (suc i) v = refl

-- n bytes of a number from byte i on
pub low_first : (i n v : ℕ) → bytes_low_first i n v ≡ bytes n (v / 256 ^ i)
low_first i zero v = refl
low_first i (suc n) v =
    let up : v / 256 ^ suc i ≡ v / 256 ^ i / 256 = rw (pow-succ', mul_comm 256 (256 ^ i)) (sym (div-div-eq-div-mul v (256 ^ i) 256)) in
    ap₂ (λ a b. a ∷ b) (byte-there i v) (low_first (suc i) n v ∙ ap (bytes n) up)

-- all bytes of a number
pub le_bytes : (n v : ℕ) → bytes_low_first 0 n v ≡ bytes n v
le_bytes n v = let e : v / 1 ≡ v = omega arith in low_first 0 n v ∙ rw (pow-zero, e) refl

-- all bytes of a number copied to such a part
pub le-wrote : (n : ℕ) (out : List ℕ) (w k v : ℕ) (ys : List ℕ) → ys ≡ bytes_low_first 0 n v → k ≡ n → w + n ≤ length out
    → put_mid w k out ys ≡ sets out w (bytes n v)
le-wrote n out w k v ys e j h =
    part_wrote out ys (bytes n v) w k n (e ∙ le_bytes n v) j (length-bytes n v) h
