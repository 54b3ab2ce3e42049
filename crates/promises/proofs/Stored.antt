-- From the bytes of a sheet to what the calls on its head and its elements answer, as promises of their contracts. (01, Passport: "The eight
-- plane corners are answered together as doubles, each with its stored bits"; "A coordinate in device points never stands for one in metres.")
use Prim.Native.Nat.{ℕ, zero, suc, ◌+◌, ◌*◌, ◌^◌, ◌<◌}
use Rattle.layout.specs.Answers.Calls.{reading}
use Rattle.layout.specs.Answers.Coordinates.{element_of}
use Rattle.layout.specs.Answers.Corners.{corner_bits, plane_corners}
use Rattle.layout.specs.Answers.Enums.{unit_in, corners_in}
use Rattle.layout.specs.Answers.Units.{rest_unit, sheet_unit, height_unit_of, number_of}
use Rattle.layout.specs.Bytes.{Bytes, number, number_in, bytes_in}
use Rattle.layout.specs.Fields.Passport
use Rattle.layout.specs.Reading.Sheets.{head_in}
use Rattle.layout.specs.Sheet.{Head, Sheet}
use Rattle.layout.specs.Walk.{Answer, given, refused}
use Rattle.layout.specs.declared.Corners.{Corners}
use Rattle.layout.specs.declared.Dimension.TheVariants.{Height}
use Rattle.layout.specs.declared.Dimension.{Dimension}
use Rattle.layout.specs.declared.Number.{Number}
use Rattle.layout.specs.declared.SheetUnit.TheVariants as Unit
use Rattle.layout.specs.declared.SheetUnit.{SheetUnit}
use Rattle.layout.specs.declared.Stored.{Stored}
use Rattle.laws.proofs.Base.Lists.{all_drop, drop-take}
use Rattle.laws.proofs.Base.Numbers.{number_lt}
use Rattle.meanings.proofs.Measures as Law
use Rattle.meanings.proofs.Same.{Words, Keeps, corners-same}
use Rattle.meanings.specs.Coordinates.{coordinate_of}
use Rattle.meanings.specs.Places.{first_none}
use Rattle.meanings.specs.declared.coordinates.Coordinate.TheVariants as In
use Rattle.meanings.specs.declared.coordinates.Coordinate.{Coordinate}
use Rattle.meanings.specs.declared.coordinates.PointNumber.TheVariants as Of
use Rattle.layout.specs.declared.HeightUnit.{HeightUnit}
use Rattle.meanings.specs.declared.coordinates.Quantity.{Quantity}
use Rattle.promises.proofs.Contracts.{Units, Cornered, Coordinates}
use Rattle.promises.proofs.Heads.{head-is}
use Rattle.promises.specs.Corners.{stored_at, stored_in}
use lib.ListN.{take, drop}
use lib.Seq.{drop-drop}
use mathlib.Core.List.{List, [], ◌∷◌}
use mathlib.Core.Path.{◌≡◌, refl, sym, ap, subst, ◌∙◌}
use native.Mathlib.Nat.{suc-add}
use native.Mathlib.Omega.{arith}
use Rattle.std.specs.Prelude.{Ok}
use Rattle.std.specs.Prelude.{Result, IfOk}
use Rattle.layout.specs.declared.Refusal.{Refusal}

number-take : (n m : ℕ) (l : List ℕ) → number n (take (n + m) l) ≡ number n l
number-take zero m l = refl
number-take (suc n) m [] = ap (λ (k : ℕ). number (suc n) (take k [])) (suc-add n m)
number-take (suc n) m (x ∷ l) = ap (λ (k : ℕ). number (suc n) (take k (x ∷ l))) (suc-add n m) ∙ ap (λ (v : ℕ). x + 256 * v) (number-take n m l)

-- a number of width bytes that stands whole in a part of a list, with m bytes of the part behind it
in_part : (width k m p : ℕ) (l : List ℕ) → number width (drop k (take (k + (width + m)) (drop p l))) ≡ number width (drop (p + k) l)
in_part width k m p l =
    ap (number width) (drop-take k (width + m) (drop p l)) ∙ number-take width m (drop k (drop p l)) ∙ ap (number width) (drop-drop k p l)

-- the eight corners stand from the eighth byte of the passport's rest on
in_rest_lem : (s : List ℕ) → corner_bits (bytes_in Passport.rest s) ≡ stored_in s
in_rest_lem s i =
    record {
      sw_x = in_part 8 8 288 (Passport.rest).place s i;
      sw_y = in_part 8 16 280 (Passport.rest).place s i;
      nw_x = in_part 8 24 272 (Passport.rest).place s i;
      nw_y = in_part 8 32 264 (Passport.rest).place s i;
      ne_x = in_part 8 40 256 (Passport.rest).place s i;
      ne_y = in_part 8 48 248 (Passport.rest).place s i;
      se_x = in_part 8 56 240 (Passport.rest).place s i;
      se_y = in_part 8 64 232 (Passport.rest).place s i;
    }

words : (s : List ℕ) → Bytes s → Words (stored_in s)
words s bs =
    let word : (n : ℕ) → stored_at s n < 2 ^ 64 =
    λ n. number_lt 8 (drop ((Passport.corners).place + 8 * n) s) (all_drop _ ((Passport.corners).place + 8 * n) s bs) in
    record {
      sw_x = word 0;
      sw_y = word 1;
      nw_x = word 2;
      nw_y = word 3;
      ne_x = word 4;
      ne_y = word 5;
      se_x = word 6;
      se_y = word 7;
    }

by_answer : (s : List ℕ) → Bytes s → (a : Answer Sheet) → ((u : Sheet) → a ≡ given u → u.head ≡ head_in s)
    → IfOk (corners_in a) (λ c. Keeps (stored_in s) c (first_none (stored_in s)))
unfolding corners_in
by_answer s bs (given u) f =
    let bits : corner_bits u.head.rest ≡ stored_in s = ap (λ (h : Head). corner_bits h.rest) (f u refl) ∙ in_rest_lem s in
    subst (λ b. Keeps b (plane_corners u.head) (first_none b)) bits (corners-same (corner_bits u.head.rest) (subst Words (sym bits) (words s bs)))
by_answer s bs (refused n p z) f = tt

-- `corners_of` answers eight doubles, each with the bits that stand in the sheet at its place, field by field; or, where one is a NaN, these
-- bits themselves with the place of the first.
pub corners-stored : (y : ℕ) (s : List ℕ) → Bytes s → (r : Result Corners Refusal) → Cornered y s r
    → IfOk r (λ c. Keeps (stored_in s) c (first_none (stored_in s)))
corners-stored y s bs r c = subst (λ m. IfOk m (λ c. Keeps (stored_in s) c (first_none (stored_in s)))) (sym c) (by_answer s bs (reading y s) (λ u e. sym (head-is y s u e)))

unit_back : (a : Answer Sheet) (u : SheetUnit) → Ok u ≡ unit_in a → (t : Sheet) × (a ≡ given t) × (u ≡ sheet_unit t.head)
unfolding unit_in
unit_back (given t) u e = (t, refl, cc)
unit_back (refused n p y) u e = absurd (let q : ◌≡◌ {A = ℕ} 0 1 = cc in omega arith)

-- The unit that `unit_of` answers of a sheet is the one of its coordinates: what `coordinate_of` makes of stored bits with the bytes that the caller
-- takes from that sheet is the number of the element that these bits are, in the unit's own type.
pub in_sheet-unit : (y : ℕ) (s : List ℕ) (u : SheetUnit) → Units y s (Ok u)
    → (reference : ℕ) (d : Dimension) (bits : ℕ) (c : Coordinate) → Coordinates (bytes_in Passport.rest s) reference d bits (Ok (Of.Plane c))
    → (e : Stored) × (element_of reference d bits ≡ Ok e) × (c ≡ coordinate_of u (number_of e))
in_sheet-unit y s u e reference d bits c w =
    let t = unit_back (reading y s) u e in
    let own : u ≡ rest_unit (bytes_in Passport.rest s) = t.2 ∙ ap sheet_unit (sym (head-is y s t.0 t.1)) in
    let made = (Law.in_unit (bytes_in Passport.rest s) reference d bits c (sym w)).1 in
    (made.0, made.1, made.2 ∙ ap (λ v. coordinate_of v (number_of made.0)) (sym own))

-- So a coordinate of a sheet in device points comes out as nothing else.
pub device_points : (y : ℕ) (s : List ℕ) → Units y s (Ok Unit.DevicePoints)
    → (reference : ℕ) (d : Dimension) (bits : ℕ) (c : Coordinate) → Coordinates (bytes_in Passport.rest s) reference d bits (Ok (Of.Plane c))
    → (n : Number) × (c ≡ In.DevicePoints (record { «unit» = record {}; number = n }))
unfolding coordinate_of
device_points y s e reference d bits c w =
    let made = in_sheet-unit y s Unit.DevicePoints e reference d bits c w in
    (number_of made.0, made.2)

-- A height is the number of its element, in the unit that the sheet's own byte for heights names, whatever the plane's is.
pub height_in_sheet : (s : List ℕ) (reference : ℕ) (d : Dimension) (bits : ℕ) (x : Quantity HeightUnit)
    → Coordinates (bytes_in Passport.rest s) reference d bits (Ok (Of.Height x))
    → (d ≡ Height) × ((e : Stored) × (element_of reference d bits ≡ Ok e)
    × (x ≡ record { «unit» = height_unit_of (number_in Passport.height_unit s); number = number_of e }))
height_in_sheet s reference d bits x w =
    let made = Law.height_in_unit (bytes_in Passport.rest s) reference d bits x (sym w) in
    let byte = in_part 1 (Passport.in_rest Passport.height_unit).place 162 (Passport.rest).place s in
    let e = made.1.0 in
    (made.0, (e, made.1.1, made.1.2 ∙ ap (λ (b : ℕ). record { «unit» = height_unit_of b; number = number_of e }) byte))
