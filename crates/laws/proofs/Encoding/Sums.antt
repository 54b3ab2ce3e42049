-- The sum of a sheet fits its field, and how large it is before only its low part is kept.
use mathlib.Core.List.{List}
use mathlib.Core.Path.{◌≡◌, refl, ap}
use Prim.Native.Nat.{ℕ, ◌*◌, ◌^◌, ◌≤◌, ◌<◌}
use lib.ListN.{length, take, drop, length-append, length-drop, take-append-drop}
use native.Mathlib.Omega.{arith}
use Rattle.layout.specs.Bytes.{Bytes, after, total}
use Rattle.layout.specs.Fields.{limit}
use Rattle.layout.specs.Fields.Passport
use Rattle.layout.specs.Layout.Encode.{encode_head, encode_with, sheet_sum}
use Rattle.layout.specs.Layout.Fine.{Fits}
use Rattle.layout.specs.Reading.Sheets.{whole_sum, sum_of}
use Rattle.layout.specs.Sheet.{Sheet}
use Rattle.laws.proofs.Base.Lists.{all_take, all_drop}
use Rattle.laws.proofs.Base.Numbers.{total-bytes}

-- the number in the field of the sum changes no length
pub length-with : (u : Sheet) (a b : ℕ) → length (encode_with u a) ≡ length (encode_with u b)
unfolding encode_with encode_head
length-with u a b = refl

-- only the low 32 bits are kept, and they have four bytes
pub sum_fits : (u : Sheet) → Fits Passport.sum (sheet_sum u)
unfolding sheet_sum
sum_fits u = omega arith

-- each byte is counted once at most
whole_le : (s : List ℕ) → Bytes s → whole_sum s ≤ 255 * length s
whole_le s b =
    let n : ℕ = (Passport.sum).place in
    let k : ℕ = after Passport.sum in
    let front : total (take n s) ≤ 255 * length (take n s) = total-bytes (take n s) (all_take _ n s b) in
    let back : total (drop k s) ≤ 255 * length (drop k s) = total-bytes (drop k s) (all_drop _ k s b) in
    omega (
      arith,
      front,
      back,
      length-drop k s,
      ap length (take-append-drop n s),
      length-append (take n s) (drop n s),
      length-drop n s,
    )

-- 255 for each of at most 67,108,864 bytes has 34 bits,
pub whole-fits : (s : List ℕ) → Bytes s → length s ≤ limit → whole_sum s < 2 ^ 34
whole-fits s b h = omega (arith, whole_le s b)

-- and up to 16,843,009 bytes, so in every sheet of document 01's limit, nothing is cut off.
pub whole_kept : (s : List ℕ) → Bytes s → length s ≤ 16843009 → sum_of s ≡ whole_sum s
whole_kept s b h = omega (arith, whole_le s b)
