-- The reference bytes 20 to 22 of a record: what each bit says, and the checks on them. (01, Record)
-- The checks take their places, for the reader has three (the bytes) and the writer one (the reference number's index).
use Rattle.std.specs.Prelude.{ℕ, Bool, not, ◌&&◌, ◌||◌, List, [], ◌∷◌, ◌++◌, ◌≡◌, refl, eqb, leb}
use Rattle.layout.specs.Bytes.{bits, bit}
use Rattle.layout.specs.Refusals.{RESERVED, NOT_CARRIED, refusal_number}
use Rattle.layout.specs.Sheet.{Reference}
use Rattle.layout.specs.Walk.{Walk, Check, must, dated, checks, ends, stops, meets}
use Rattle.layout.specs.Years.{since, multipolygon, compressed_graphics, binding_vectors, unicode, above_all, below_all, vertical_alignment, spline_bits}

-- "Byte 20: bits 0-3 localisation 0 to 5; bit 4 multipolygon; bits 5-7 zero."
abbrev pub localisation : Reference → ℕ
localisation r = bits 0 3 r.byte20

unfoldable pub byte20 : ℕ → Reference → List Check
byte20 place r =
    must (leb (localisation r) 5 && eqb (bits 5 7 r.byte20) 0) RESERVED place
    ∷ dated (bit 4 r.byte20) (since multipolygon) place
    ∷ []

-- "Byte 21, from bit 0: compressed graphics, semantics, element size, binding vector, Unicode, above all, below all, vertical
-- alignment. This order decides over note 4 of 000."
abbrev pub semantics : Reference → Bool
semantics r = bit 1 r.byte21

abbrev pub element_size : Reference → Bool
element_size r = bit 2 r.byte21

abbrev pub binding_vector : Reference → Bool
binding_vector r = bit 3 r.byte21

unfoldable pub byte21 : ℕ → Reference → List Check
byte21 place r =
    dated (bit 0 r.byte21) (since compressed_graphics) place
    ∷ dated (binding_vector r) (since binding_vectors) place
    ∷ dated (bit 4 r.byte21) (since unicode) place
    ∷ dated (bit 5 r.byte21) (since above_all) place
    ∷ dated (bit 6 r.byte21) (since below_all) place
    ∷ dated (bit 7 r.byte21) (since vertical_alignment) place
    ∷ must (not (binding_vector r)) NOT_CARRIED place
    ∷ []

-- "Byte 22: bit 0 zero; bit 1 three dimensions; bit 2 floating; bit 3 text in metric, only with localisation 3 or 5; bit 4
-- graphics; bit 5 scalable; bits 6-7 spline."
abbrev pub three_dimensions : Reference → Bool
three_dimensions r = bit 1 r.byte22

abbrev pub floating : Reference → Bool
floating r = bit 2 r.byte22

abbrev pub text_in_metric : Reference → Bool
text_in_metric r = bit 3 r.byte22

abbrev pub graphics : Reference → Bool
graphics r = bit 4 r.byte22

unfoldable pub byte22 : ℕ → Reference → List Check
byte22 place r =
    must (not (bit 0 r.byte22) && (not (text_in_metric r) || eqb (localisation r) 3 || eqb (localisation r) 5)) RESERVED place
    ∷ dated (not (eqb (bits 6 7 r.byte22) 0)) (since spline_bits) place
    ∷ must (not (graphics r)) NOT_CARRIED place
    ∷ []

-- the three bytes at their three places
-- "In one byte: RESERVED, then TOO NEW (lowest bit first), then NOT CARRIED." (01, Order)
unfoldable pub reference_checks : ℕ → ℕ → ℕ → Reference → List Check
reference_checks place20 place21 place22 r = byte20 place20 r ++ byte21 place21 r ++ byte22 place22 r

abbrev of : ℕ → ℕ → ℕ → Walk (Unit {0})
of b20 b21 b22 = checks 0 (reference_checks 20 21 22 (record { byte20 = b20; byte21 = b21; byte22 = b22 }))

cases : (of 5 0 0 ≡ ends tt) × (of 6 0 0 ≡ stops RESERVED 20) × (of 32 0 0 ≡ stops RESERVED 20) × (of 128 0 0 ≡ stops RESERVED 20) × (of 16 0 0 ≡ meets 20 2016 (ends tt))
    × (of 0 1 0 ≡ meets 21 2015 (ends tt)) × (of 0 2 0 ≡ ends tt) × (of 0 4 0 ≡ ends tt) × (of 0 8 0 ≡ meets 21 2008 (stops NOT_CARRIED 21))
    × (of 0 16 0 ≡ meets 21 2008 (ends tt)) × (of 0 32 0 ≡ meets 21 2014 (ends tt)) × (of 0 64 0 ≡ meets 21 2014 (ends tt))
    × (of 0 128 0 ≡ meets 21 2017 (ends tt))
    × (of 0 0 1 ≡ stops RESERVED 22) × (of 0 0 2 ≡ ends tt) × (of 0 0 4 ≡ ends tt) × (of 0 0 8 ≡ stops RESERVED 22) × (of 3 0 8 ≡ ends tt) × (of 5 0 8 ≡ ends tt)
    × (of 4 0 8 ≡ stops RESERVED 22)
    × (of 0 0 16 ≡ stops NOT_CARRIED 22) × (of 0 0 32 ≡ ends tt) × (of 0 0 64 ≡ meets 22 2004 (ends tt)) × (of 0 0 192 ≡ meets 22 2004 (ends tt))
    -- byte by byte, and in one byte RESERVED, TOO NEW, NOT CARRIED
    × (of 16 9 81 ≡ meets 20 2016 (meets 21 2015 (meets 21 2008 (stops NOT_CARRIED 21)))) × (of 0 0 81 ≡ stops RESERVED 22) × (of 0 0 80 ≡ meets 22 2004 (stops NOT_CARRIED 22))
    × (refusal_number RESERVED ≡ 7) × (refusal_number NOT_CARRIED ≡ 9)
unfolding reference_checks byte20 byte21 byte22
cases = (
  refl,
  refl,
  refl,
  refl,
  refl,
  refl,
  refl,
  refl,
  refl,
  refl,
  refl,
  refl,
  refl,
  refl,
  refl,
  refl,
  refl,
  refl,
  refl,
  refl,
  refl,
  refl,
  refl,
  refl,
  refl,
  refl,
  refl,
  refl,
  refl,
)
