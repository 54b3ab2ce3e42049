-- The bytes of a number: those of its low part, and those above it.
use mathlib.Core.List.{List, ◌∷◌, ◌++◌}
use mathlib.Core.Path.{◌≡◌, refl, ap, ◌∙◌}
use Prim.Native.Nat.{ℕ, zero, suc, ◌+◌, ◌*◌, ◌/◌, ◌%◌, ◌^◌, ◌<◌}
use lib.Arith.{mod-mul}
use lib.Seq.{sets}
use native.Mathlib.Nat.{div-div-eq-div-mul, pow-succ', mul_comm, pow-zero, zero-add, suc-add}
use native.Mathlib.Omega.{arith}
use Rattle.fields.proofs.Laws.Put.{sets_append}
use Rattle.laws.proofs.Base.Numbers.{length-bytes}
use Rattle.layout.specs.Bytes.{bytes}

power_positive : (n : ℕ) → 0 < 256 ^ n
power_positive zero = omega arith
power_positive (suc n) = omega (arith, power_positive n)

-- what lies above the width is not stored
pub bytes_low : (n v : ℕ) → bytes n (v % 256 ^ n) ≡ bytes n v
bytes_low zero v = refl
bytes_low (suc n) v =
    let e : v % 256 ^ suc n ≡ v / 256 % 256 ^ n * 256 + v % 256 = ap (λ (k : ℕ). v % k) (pow-succ' 256 n ∙ mul_comm 256 (256 ^ n))
    ∙ mod-mul v (power_positive n) (omega arith) in
    let low : v % 256 ^ suc n % 256 ≡ v % 256 = omega (arith, e) in
    let high : v % 256 ^ suc n / 256 ≡ v / 256 % 256 ^ n = omega (arith, e) in
    rw (low, high, bytes_low n (v / 256)) refl

bytes-join : (m n v : ℕ) → bytes (m + n) v ≡ bytes m v ++ bytes n (v / 256 ^ m)
bytes-join zero n v = let e : v / 1 ≡ v = omega arith in rw (zero-add, pow-zero, e) refl
bytes-join (suc m) n v = rw suc-add (ap (λ l. v % 256 ∷ l) (bytes-join m n (v / 256) ∙ rw (div-div-eq-div-mul, ← pow-succ') refl))

-- a number of m + n bytes as its low m bytes and the n above them
pub put_parts : (m n : ℕ) (out : List ℕ) (w v : ℕ) → sets (sets out w (bytes m (v % 256 ^ m))) (w + m) (bytes n (v / 256 ^ m)) ≡ sets out w (bytes (m + n) v)
put_parts m n out w v = rw (bytes_low m v, bytes-join m n v, sets_append, length-bytes) refl
