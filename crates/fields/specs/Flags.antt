-- The checks on the carried bytes once more, by the values that stand in them: layout's lists are these lists of what is read.
use Rattle.std.specs.Prelude.{Bool, not, ◌&&◌, List, [], ◌∷◌, ◌≡◌, refl, ℕ, eqb, leb, take, drop}
use Rattle.layout.specs.Bytes.{number, zeros, bits, bit}
use Rattle.layout.specs.Fields.Descriptor
use Rattle.layout.specs.Fields.Passport
use Rattle.layout.specs.Shared.Carried.{state, label_coding, allowed, rest_checks, carried_checks}
use Rattle.layout.specs.Walk.{Check, dated}
use Rattle.layout.specs.Years.{since, accuracy_set, special_sorting, epsg_set, north_offset, east_offset, automatic_guid, edit_date}

abbrev pub rest_by : ℕ → ℕ → ℕ → ℕ → ℕ → Bool → Bool → List Check
rest_by flags labels accuracy sorting epsg north east =
    allowed (state flags && not (bit 2 flags)) Passport.flags
    ∷ allowed (label_coding labels) Passport.labels
    ∷ allowed (leb accuracy 3) Passport.accuracy
    ∷ dated (not (eqb accuracy 0)) (since accuracy_set) (Passport.accuracy).place
    ∷ allowed (eqb (bits 1 7 sorting) 0) Passport.sorting
    ∷ dated (bit 0 sorting) (since special_sorting) (Passport.sorting).place
    ∷ dated (not (eqb epsg 0)) (since epsg_set) (Passport.epsg).place
    ∷ dated north (since north_offset) (Passport.north).place
    ∷ dated east (since east_offset) (Passport.east).place
    ∷ []

abbrev pub carried_by : ℕ → ℕ → ℕ → ℕ → List Check
carried_by flags labels secrecy keeping =
    allowed (state flags) Descriptor.flags
    ∷ allowed (label_coding labels) Descriptor.labels
    ∷ allowed (leb secrecy 5) Descriptor.secrecy
    ∷ allowed (eqb (bits 2 7 keeping) 0) Descriptor.keeping
    ∷ dated (bit 0 keeping) (since automatic_guid) (Descriptor.keeping).place
    ∷ dated (bit 1 keeping) (since edit_date) (Descriptor.keeping).place
    ∷ []

pub rest_by_lem : (r : List ℕ)
    → rest_by (number 1 (drop 0 r)) (number 1 (drop 1 r)) (number 1 (drop 2 r)) (number 1 (drop 3 r)) (number 4 (drop 4 r))
    (not (zeros (take 8 (drop 288 r)))) (not (zeros (take 8 (drop 296 r))))
    ≡ rest_checks r
unfolding rest_checks
rest_by_lem r = refl

pub carried_by_lem : (c : List ℕ)
    → carried_by (number 1 (drop 0 c)) (number 1 (drop 1 c)) (number 1 (drop 2 c)) (number 1 (drop 3 c)) ≡ carried_checks c
unfolding carried_checks
carried_by_lem c = refl
