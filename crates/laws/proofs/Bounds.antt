-- How large things get: what the sum, the lengths and the three outputs of unfolding are bounded by, so that each fits its type.
use mathlib.Core.Bool.{Bool, true, false, cond}
use mathlib.Core.List.{List, [], ◌∷◌}
use mathlib.Core.Path.{◌≡◌, refl, ap, sym, ◌∙◌}
use Prim.Native.Nat.{ℕ, ◌+◌, ◌*◌, ◌^◌, ◌≤◌, ◌<◌}
use lib.ListN.{length}
use native.Mathlib.Nat.{zero-mul, suc-mul, add-mul, mul_assoc, mul_comm, mul-le-mul_left}
use native.Mathlib.Omega.{arith}
use Rattle.layout.specs.Bytes.{All}
use Rattle.layout.specs.Fields.{limit}
use Rattle.layout.specs.Layout.Encode.{encode}
use Rattle.layout.specs.Layout.Fine.{FineItem, FineLabel, FineSubobject, Fine}
use Rattle.layout.specs.Layout.Sizes.{sum_by, item_bytes, subobject_bytes, record_bytes}
use Rattle.layout.specs.Reading.Sheets.{start}
use Rattle.layout.specs.Shared.Reference.{element_size, floating, three_dimensions, text_in_metric}
use Rattle.layout.specs.Shared.Widths.{element_widths, point_bytes, widths, point_size}
use Rattle.layout.specs.Sheet.{Item, Part, Reference, Record, Sheet}
use Rattle.layout.specs.Writing.Tables.{flatten}
use Rattle.laws.proofs.Writing.Limits.{all_near}
use Rattle.laws.proofs.Writing.Records.{NearRecord}
use Rattle.laws.proofs.Writing.Sizes.{sum-times, row_numbers, row_elements, row_bytes, encode-length, flatten-sizes}
-- "The sum may now pass 32 bits, and only its low 32 are kept." (02, request 7): that these fit their field, that the whole has 34, and that the length
-- is 452 plus the records' lengths stands with the encoding, and is passed on here.
pub use Rattle.laws.proofs.Encoding.Lengths.{length-encode}
pub use Rattle.laws.proofs.Encoding.Sums.{sum_fits, whole-fits, whole_kept}

-- sums of smaller things are smaller
sum-le : {A : Type 0} (F : A → Type 0) (f g : A → ℕ) → ((a : A) → F a → f a ≤ g a) → (l : List A) → All F l → sum_by f l ≤ sum_by g l
sum-le F f g h [] w = omega arith
sum-le F f g h (a ∷ l) w = omega (arith, h a w.0, sum-le F f g h l w.1)

-- and leave k over for each
sum_over : {A : Type 0} (F : A → Type 0) (k : ℕ) (f g : A → ℕ) → ((a : A) → F a → f a + k ≤ g a) → (l : List A) → All F l
    → sum_by f l + length l * k ≤ sum_by g l
sum_over F k f g h [] w = rw (zero-mul k) (omega arith)
sum_over F k f g h (a ∷ l) w = rw (suc-mul (length l) k) (omega (arith, h a w.0, sum_over F k f g h l w.1))

sum-count : {A : Type 0} (f : A → ℕ) (k : ℕ) → ((a : A) → k ≤ f a) → (l : List A) → length l * k ≤ sum_by f l
sum-count f k h [] = rw (zero-mul k) (omega arith)
sum-count f k h (a ∷ l) = rw (suc-mul (length l) k) (omega (arith, h a, sum-count f k h l))

sum_twice : {A : Type 0} (f : A → ℕ) (l : List A) → sum_by (λ a. 2 * f a) l ≡ 2 * sum_by f l
sum_twice f [] = refl
sum_twice f (a ∷ l) = omega (arith, sum_twice f l)

-- an element has two bytes at least
pub two_bytes : (size float three : Bool) → 2 * length (element_widths size float three) ≤ point_bytes size float three
two_bytes false false false = omega arith
two_bytes false true false = omega arith
two_bytes true false false = omega arith
two_bytes true true false = omega arith
two_bytes false false true = omega arith
two_bytes false true true = omega arith
two_bytes true false true = omega arith
two_bytes true true true = omega arith

two_each : (r : Reference) (n : ℕ) → 2 * (n * length (widths r)) ≤ n * point_size r
two_each r n =
    let k : ℕ = length (widths r) in
    let same : 2 * (n * k) ≡ n * (2 * k) = sym (mul_assoc 2 n k) ∙ ap (λ m. m * k) (mul_comm 2 n) ∙ mul_assoc n 2 k in
    rw same (mul-le-mul_left n (two_bytes (element_size r) (floating r) (three_dimensions r)))

-- a label's text has its length byte and its closing zero beside it
label-fits : (b : Bool) (t : List ℕ) → FineLabel b t → length t ≤ cond b (2 + length t) 0
label-fits true t f = omega arith
label-fits false t f = rw f (omega arith)

-- what a record has of each output, against its bytes
row-numbers : (r : Record) → NearRecord r → row_numbers r + 21 ≤ record_bytes r
unfolding record_bytes
row-numbers r n =
    let ref : Reference = r.reference in
    let parts : length r.subobjects * 4 ≤ sum_by (subobject_bytes ref) r.subobjects = sum-count (subobject_bytes ref) 4 (λ a. omega arith) r.subobjects in
    let items : length r.items * 4 ≤ sum_by item_bytes r.items = sum-count item_bytes 4 (λ i. omega arith) r.items in
    omega arith

row-elements : (r : Record) → NearRecord r → 2 * row_elements r + 32 ≤ record_bytes r
unfolding record_bytes
row-elements r n =
    let ref : Reference = r.reference in
    let k : ℕ = point_size ref in
    let later : ℕ = sum_by (λ (a : Part). a.points) r.subobjects in
    let all : 2 * ((r.first.points + later) * length (widths ref)) ≤ (r.first.points + later) * k = two_each ref (r.first.points + later) in
    let split : (r.first.points + later) * k ≡ r.first.points * k + later * k = add-mul r.first.points later k in
    let each : sum_by (λ (a : Part). a.points * k) r.subobjects ≡ later * k = sum-times (λ (a : Part). a.points) k r.subobjects in
    let more : sum_by (λ (a : Part). a.points * k) r.subobjects ≤ sum_by (subobject_bytes ref) r.subobjects =
    sum-le (FineSubobject ref _) (λ a. a.points * k) (subobject_bytes ref) (λ a f. omega arith) r.subobjects n.subobjects in
    omega (arith, all, split, each, more)

row-bytes : (r : Record) → NearRecord r → row_bytes r + 32 ≤ record_bytes r
unfolding record_bytes
row-bytes r n =
    let ref : Reference = r.reference in
    let b : Bool = text_in_metric ref in
    let first : length r.first.text ≤ cond b (2 + length r.first.text) 0 = label-fits b r.first.text n.first.label in
    let later : sum_by (λ (a : Part). length a.text) r.subobjects ≤ sum_by (subobject_bytes ref) r.subobjects =
    sum-le (FineSubobject ref _) (λ a. length a.text) (subobject_bytes ref) (λ a f. omega (arith, label-fits b a.text f.part.label)) r.subobjects
    n.subobjects in
    let items : sum_by (λ (i : Item). length i.value) r.items ≤ sum_by item_bytes r.items =
    sum-le FineItem (λ i. length i.value) item_bytes (λ i f. omega arith) r.items n.items in
    omega (arith, first, later, items)

-- The three outputs of unfolding, against the sheet's length: a record takes 21 bytes more than it has numbers, 32 more than twice its
-- elements, and 32 more than it has bytes in the pool.
pub numbers_bound : (u : Sheet) → Fine u → start + length (flatten u.records).numbers + length u.records * 21 ≤ length (encode u)
numbers_bound u f =
    let near = all_near u.records f.records in
    omega (
      arith,
      encode-length u f.head f.tails near,
      (flatten-sizes u.records near).0,
      sum_over NearRecord 21 row_numbers record_bytes row-numbers u.records near,
    )

pub elements_bound : (u : Sheet) → Fine u → start + 2 * length (flatten u.records).elements + length u.records * 32 ≤ length (encode u)
elements_bound u f =
    let near = all_near u.records f.records in
    let twice : sum_by (λ r. 2 * row_elements r) u.records ≡ 2 * sum_by row_elements u.records = sum_twice row_elements u.records in
    omega (
      arith,
      encode-length u f.head f.tails near,
      (flatten-sizes u.records near).1,
      twice,
      sum_over NearRecord 32 (λ r. 2 * row_elements r) record_bytes row-elements u.records near,
    )

pub bytes_bound : (u : Sheet) → Fine u → start + length (flatten u.records).bytes + length u.records * 32 ≤ length (encode u)
bytes_bound u f =
    let near = all_near u.records f.records in
    omega (
      arith,
      encode-length u f.head f.tails near,
      (flatten-sizes u.records near).2,
      sum_over NearRecord 32 row_bytes record_bytes row-bytes u.records near,
    )

-- So all of these fit 32 bits, as they did: "Raise it to 67,108,864 bytes" (02, request 7).
pub all_fit : (u : Sheet) → Fine u
    → (length (encode u) < 2 ^ 32) × (length u.records < 2 ^ 32) × (length (flatten u.records).numbers < 2 ^ 32)
    × (length (flatten u.records).elements < 2 ^ 32) × (length (flatten u.records).bytes < 2 ^ 32)
all_fit u f =
    let short : length (encode u) ≤ limit = f.short in
    let numbers = numbers_bound u f in
    let elements = elements_bound u f in
    let pool = bytes_bound u f in
    (omega arith, omega arith, omega arith, omega arith, omega arith)
