-- The types of semantic items: which there are, their scale byte, the length of their value and its closing zeros. (01, Record)
--   "Types 0 and 126: scale + 1 bytes, the last zero. 127: 2 × (scale + 1) bytes, the last two zero. 1, 2, 4: that many bytes, a
--   signed integer times ten to the signed scale, scale byte 0x80 refused. 8: a double, scale carried. 128: scale 0xFF, then a
--   4-byte length, even and at least 2, then that many bytes, the last two zero."
use Rattle.std.specs.Prelude.{ℕ, ◌+◌, ◌-◌, ◌*◌, ◌%◌, Bool, true, false, not, ◌&&◌, ◌||◌, cond, List, [], ◌∷◌, ◌≡◌, refl, eqb, leb, length, drop}
use Rattle.layout.specs.Bytes.{zeros}
use Rattle.layout.specs.Fields.Item

pub data Kind : Type 0 where
  -- types 0 and 126, 127, 128
  narrow wide long : Kind
  -- types 1, 2 and 4: an integer of so many bytes
  integer : ℕ → Kind
  -- type 8
  double : Kind
  -- any other type
  unknown : Kind

abbrev pub kind_of : ℕ → Kind
kind_of type =
    cond (eqb type 0 || eqb type 126) narrow
    (cond (eqb type 127) wide
    (cond (eqb type 1 || eqb type 2 || eqb type 4) (integer type)
    (cond (eqb type 8) double
    (cond (eqb type 128) long unknown))))

abbrev pub is_known : Kind → Bool
is_known narrow = true
is_known wide = true
is_known long = true
is_known (integer n) = true
is_known double = true
is_known unknown = false

abbrev pub is_long : Kind → Bool
is_long narrow = false
is_long wide = false
is_long long = true
is_long (integer n) = false
is_long double = false
is_long unknown = false

-- "scale byte 0x80 refused", "scale 0xFF"; else any scale is good
abbrev pub good_scale : Kind → ℕ → Bool
good_scale narrow scale = true
good_scale wide scale = true
good_scale long scale = eqb scale 0xFF
good_scale (integer n) scale = not (eqb scale 0x80)
good_scale double scale = true
good_scale unknown scale = true

-- how many bytes of length stand before the value
abbrev pub length_bytes : Kind → ℕ
length_bytes narrow = 0
length_bytes wide = 0
length_bytes long = (Item.long_length).width
length_bytes (integer n) = 0
length_bytes double = 0
length_bytes unknown = 0

-- the length of the value, by the scale byte and the length that stands before it
abbrev pub value_length : Kind → ℕ → ℕ → ℕ
value_length narrow scale stated = scale + 1
value_length wide scale stated = 2 * (scale + 1)
value_length long scale stated = stated
value_length (integer n) scale stated = n
value_length double scale stated = 8
value_length unknown scale stated = 0

-- "even and at least 2"
abbrev pub good_length : Kind → ℕ → Bool
good_length narrow n = true
good_length wide n = true
good_length long n = eqb (n % 2) 0 && leb 2 n
good_length (integer k) n = true
good_length double n = true
good_length unknown n = true

-- how many closing zeros the value ends with
abbrev pub closing : Kind → ℕ
closing narrow = 1
closing wide = 2
closing long = 2
closing (integer n) = 0
closing double = 0
closing unknown = 0

abbrev pub is_closed : Kind → List ℕ → Bool
is_closed k value = zeros (drop (length value - closing k) value)

kinds : (kind_of 0 ≡ narrow) × (kind_of 126 ≡ narrow) × (kind_of 127 ≡ wide) × (kind_of 1 ≡ integer 1) × (kind_of 2 ≡ integer 2) × (kind_of 4 ≡ integer 4)
    × (kind_of 8 ≡ double) × (kind_of 128 ≡ long) × (kind_of 3 ≡ unknown) × (kind_of 125 ≡ unknown) × (kind_of 129 ≡ unknown) × (kind_of 255 ≡ unknown)
kinds = (refl, refl, refl, refl, refl, refl, refl, refl, refl, refl, refl, refl)

cases : (good_scale (integer 2) 0x80 ≡ false) × (good_scale (integer 2) 0x81 ≡ true) × (good_scale long 0xFE ≡ false) × (good_scale double 0x80 ≡ true)
    × (good_scale narrow 0x80 ≡ true)
    × (value_length narrow 0 9 ≡ 1) × (value_length wide 3 9 ≡ 8) × (value_length (integer 4) 3 9 ≡ 4) × (value_length double 3 9 ≡ 8)
    × (value_length long 255 9 ≡ 9)
    × (good_length long 2 ≡ true) × (good_length long 0 ≡ false) × (good_length long 3 ≡ false)
    × (is_closed narrow (7 ∷ 0 ∷ []) ≡ true) × (is_closed narrow (0 ∷ 7 ∷ []) ≡ false)
    -- two closing zeros, and one of them missing
    × (is_closed wide (7 ∷ 7 ∷ 0 ∷ 0 ∷ []) ≡ true) × (is_closed wide (7 ∷ 0 ∷ 7 ∷ 0 ∷ []) ≡ false) × (is_closed long (7 ∷ 0 ∷ 0 ∷ 7 ∷ []) ≡ false)
    × (is_closed (integer 2) (7 ∷ 7 ∷ []) ≡ true)
cases = (refl, refl, refl, refl, refl, refl, refl, refl, refl, refl, refl, refl, refl, refl, refl, refl, refl, refl, refl)
