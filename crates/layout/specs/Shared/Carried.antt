-- The checks on the carried bytes: the 304 from +96 and the four at 444. The reader and the writer share them, at the same places.
use Rattle.std.specs.Prelude.{ℕ, ◌-◌, Bool, not, ◌&&◌, ◌||◌, List, [], ◌∷◌, ◌≡◌, refl, eqb, leb, replicate, set}
use Rattle.layout.specs.Bytes.{Field, number_in, bytes_in, zeros, bits, bit}
use Rattle.layout.specs.Fields.Descriptor
use Rattle.layout.specs.Fields.Passport
use Rattle.layout.specs.Refusals.{RESERVED, refusal_number}
use Rattle.layout.specs.Walk.{Check, must, dated, checks, ends, stops, meets}
use Rattle.layout.specs.Years.{since, accuracy_set, special_sorting, epsg_set, north_offset, east_offset, automatic_guid, edit_date}

-- +96 and 444: "bits 0-1 must be 3", "bits 3-4 are 0 or 3", "bits 5-6 zero"; bit 7 is free
abbrev pub state : ℕ → Bool
state b = eqb (bits 0 1 b) 3 && (eqb (bits 3 4 b) 0 || eqb (bits 3 4 b) 3) && eqb (bits 5 6 b) 0

-- "+97 label coding 0 to 2", "445 label coding 0 to 2"
abbrev pub label_coding : ℕ → Bool
label_coding b = leb b 2

-- "RESERVED: a value not allowed above at a flag, code or reserved field"
abbrev pub allowed : Bool → Field → Check
allowed test f = must test RESERVED f.place

-- the rest of the passport, r
unfoldable pub rest_checks : List ℕ → List Check
rest_checks r =
    let there : Field → ℕ = λ f. number_in (Passport.in_rest f) r in
    let anyByte : Field → Bool = λ f. not (zeros (bytes_in (Passport.in_rest f) r)) in
    -- "+96: bits 0-1 must be 3; bit 2 zero; bits 3-4 are 0 or 3; bits 5-6 zero"
    allowed (state (there Passport.flags) && not (bit 2 (there Passport.flags))) Passport.flags
    ∷ allowed (label_coding (there Passport.labels)) Passport.labels
    -- "+98 accuracy 0 to 3"
    ∷ allowed (leb (there Passport.accuracy) 3) Passport.accuracy
    ∷ dated (not (eqb (there Passport.accuracy) 0)) (since accuracy_set) (Passport.accuracy).place
    -- "+99 bit 0 special sorting, bits 1-7 zero"
    ∷ allowed (eqb (bits 1 7 (there Passport.sorting)) 0) Passport.sorting
    ∷ dated (bit 0 (there Passport.sorting)) (since special_sorting) (Passport.sorting).place
    -- "EPSG not 0"
    ∷ dated (not (eqb (there Passport.epsg) 0)) (since epsg_set) (Passport.epsg).place
    -- "offsets at +384 and +392 (any non-zero byte)"
    ∷ dated (anyByte Passport.north) (since north_offset) (Passport.north).place
    ∷ dated (anyByte Passport.east) (since east_offset) (Passport.east).place
    ∷ []

-- the descriptor's four bytes at 444, c
unfoldable pub carried_checks : List ℕ → List Check
carried_checks c =
    let there : Field → ℕ = λ f. number_in (Descriptor.in_carried f) c in
    -- "bits 0-1 must be 3, bit 2 free, bits 3-4 are 0 or 3, bits 5-6 zero, bit 7 free"
    allowed (state (there Descriptor.flags)) Descriptor.flags
    ∷ allowed (label_coding (there Descriptor.labels)) Descriptor.labels
    -- "446 secrecy 0 to 5"
    ∷ allowed (leb (there Descriptor.secrecy) 5) Descriptor.secrecy
    -- "447 bit 0 automatic GUID, bit 1 edit date, bits 2-7 zero"
    ∷ allowed (eqb (bits 2 7 (there Descriptor.keeping)) 0) Descriptor.keeping
    ∷ dated (bit 0 (there Descriptor.keeping)) (since automatic_guid) (Descriptor.keeping).place
    ∷ dated (bit 1 (there Descriptor.keeping)) (since edit_date) (Descriptor.keeping).place
    ∷ []

-- the rest with one byte changed, by its place in the sheet
abbrev with : ℕ → ℕ → List ℕ
with place b = set (3 ∷ replicate 303 0) (place - (Passport.rest).place) b

rest_cases : (checks 0 (rest_checks (with 96 3)) ≡ ends tt) × (checks 0 (rest_checks (with 96 0b10011011)) ≡ ends tt)
    -- bits 0-1 not 3, bit 2 set, bits 3-4 neither 0 nor 3, bits 5-6 not zero
    × (checks 0 (rest_checks (with 96 0b00000010)) ≡ stops RESERVED 96) × (checks 0 (rest_checks (with 96 0b00000111)) ≡ stops RESERVED 96)
    × (checks 0 (rest_checks (with 96 0b00001011)) ≡ stops RESERVED 96) × (checks 0 (rest_checks (with 96 0b01000011)) ≡ stops RESERVED 96)
    × (checks 0 (rest_checks (with 97 2)) ≡ ends tt) × (checks 0 (rest_checks (with 97 3)) ≡ stops RESERVED 97)
    × (checks 0 (rest_checks (with 98 3)) ≡ meets 98 2006 (ends tt)) × (checks 0 (rest_checks (with 98 4)) ≡ stops RESERVED 98)
    × (checks 0 (rest_checks (with 99 1)) ≡ meets 99 2008 (ends tt)) × (checks 0 (rest_checks (with 99 2)) ≡ stops RESERVED 99)
    -- EPSG is one feature at its first byte, whichever byte of it is not zero; so are the offsets
    × (checks 0 (rest_checks (with 103 1)) ≡ meets 100 2017 (ends tt)) × (checks 0 (rest_checks (with 104 1)) ≡ ends tt)
    × (checks 0 (rest_checks (with 391 128)) ≡ meets 384 2004 (ends tt)) × (checks 0 (rest_checks (with 399 1)) ≡ meets 392 2004 (ends tt))
    × (checks 0 (rest_checks (with 383 1)) ≡ ends tt)
    × (refusal_number RESERVED ≡ 7)
unfolding rest_checks
rest_cases = (refl, refl, refl, refl, refl, refl, refl, refl, refl, refl, refl, refl, refl, refl, refl, refl, refl, refl)

carried_cases : (checks 0 (carried_checks (0b10011111 ∷ 2 ∷ 5 ∷ 0 ∷ [])) ≡ ends tt)
    × (checks 0 (carried_checks (0b00010011 ∷ 0 ∷ 0 ∷ 0 ∷ [])) ≡ stops RESERVED 444) × (checks 0 (carried_checks (0b00100011 ∷ 0 ∷ 0 ∷ 0 ∷ [])) ≡ stops RESERVED 444)
    × (checks 0 (carried_checks (3 ∷ 3 ∷ 6 ∷ 4 ∷ [])) ≡ stops RESERVED 445) × (checks 0 (carried_checks (3 ∷ 0 ∷ 6 ∷ 4 ∷ [])) ≡ stops RESERVED 446)
    × (checks 0 (carried_checks (3 ∷ 0 ∷ 0 ∷ 4 ∷ [])) ≡ stops RESERVED 447)
    -- automatic GUID, then edit date, at one place
    × (checks 0 (carried_checks (3 ∷ 0 ∷ 0 ∷ 3 ∷ [])) ≡ meets 447 2017 (meets 447 2017 (ends tt)))
    × (refusal_number RESERVED ≡ 7)
unfolding carried_checks
carried_cases = (refl, refl, refl, refl, refl, refl, refl, refl)
