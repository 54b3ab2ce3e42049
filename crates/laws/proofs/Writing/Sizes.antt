-- How many bytes a sheet has, and how much of each list of a table a record has, by numbers that stand in the table.
use mathlib.Core.Bool.{Bool, true, false, cond}
use mathlib.Core.List.{List, [], ◌∷◌, ◌++◌}
use mathlib.Core.Path.{◌≡◌, refl, ap, sym, ◌∙◌}
use Prim.Native.Nat.{ℕ, ◌+◌, ◌*◌}
use lib.ListN.{length, length-append}
use native.Mathlib.Nat.{zero-mul, add-mul}
use native.Mathlib.Omega.{arith}
use Rattle.layout.specs.Bytes.{All, flat, stored_all, repeat, total}
use Rattle.layout.specs.Layout.Encode.{encode_item, encode_text, encode_part, encode_subobject, encode_metric, encode_semantics, encode_record, encode}
use Rattle.layout.specs.Layout.Fine.{FineItem, FinePart, FineSubobject, FineHead, FineTails}
use Rattle.layout.specs.Layout.Sizes.{sum_by, item_bytes, part_bytes, subobject_bytes, record_bytes}
use Rattle.layout.specs.Reading.Sheets.{start}
use Rattle.layout.specs.Shared.Mark.{has_mark}
use Rattle.layout.specs.Shared.Reference.{element_size, floating, three_dimensions, text_in_metric}
use Rattle.layout.specs.Shared.Row
use Rattle.layout.specs.Shared.Widths.{widths, point_size, point_is_elements}
use Rattle.layout.specs.Sheet.{Item, Part, Reference, Record, Sheet, Table}
use Rattle.layout.specs.Writing.Tables.{joined, flatten_header, flatten_part, flatten_item, flatten_record, flatten}
use Rattle.laws.proofs.Base.Numbers.{length-bytes, length-stored, total-repeat}
use Rattle.laws.proofs.Encoding.Lengths.{length_record, length-encode}
use Rattle.laws.proofs.Writing.Parts.{part-elements}
use Rattle.laws.proofs.Writing.Records.{NearRecord, record_numbers}

-- Bytes

length-flat : {A : Type 0} (E : A → List ℕ) (F : A → Type 0) (f : A → ℕ) → ((a : A) → F a → length (E a) ≡ f a) → (l : List A) → All F l
    → length (flat E l) ≡ sum_by f l
length-flat E F f g [] h = refl
length-flat E F f g (a ∷ l) h = rw (length-append (E a) (flat E l), g a h.0, length-flat E F f g l h.1)

pub item-length : (i : Item) → length (encode_item i) ≡ item_bytes i
unfolding encode_item
item-length i =
    simp (length-append, length-bytes) (omega arith)

text-length : (b : Bool) (t : List ℕ) → length (encode_text b t) ≡ cond b (2 + length t) 0
unfolding encode_text
text-length false t = refl
text-length true t = simp length-append (omega arith)

part_length : (r : Reference) (a : Part) → FinePart r a → length (encode_part r a) ≡ part_bytes r a
unfolding encode_part
part_length r a f =
    let ws = repeat a.points (widths r) in
    let size : total (widths r) ≡ point_size r = sym (point_is_elements (element_size r) (floating r) (three_dimensions r)) in
    rw (
      length-append (stored_all ws a.elements) (encode_text (text_in_metric r) a.text),
      length-stored ws a.elements f.elements,
      total-repeat a.points (widths r),
      size,
      text-length (text_in_metric r) a.text,
    )

subobject_length : (r : Reference) (marked : Bool) (a : Part) → FineSubobject r marked a → length (encode_subobject r a) ≡ subobject_bytes r a
unfolding encode_subobject
subobject_length r marked a f = omega (arith, part_length r a f.part)

pub record_length : (r : Record) → NearRecord r → length (encode_record r) ≡ record_bytes r
unfolding encode_metric encode_semantics record_bytes
record_length r n =
    let ref = r.reference in
    let marked = has_mark r.mark in
    let metric = length-append (encode_part ref r.first) (flat (encode_subobject ref) r.subobjects) in
    let first = part_length ref r.first n.first in
    let F = FineSubobject ref marked in
    let later = length-flat (encode_subobject ref) F (subobject_bytes ref) (subobject_length ref marked) r.subobjects n.subobjects in
    let items = length-flat encode_item FineItem item_bytes (λ i f. item-length i) r.items n.items in
    omega (arith, length_record r, metric, first, later, items)

-- what TOO LONG is asked of: 452 and the records
pub encode-length : (u : Sheet) → FineHead u.head → FineTails u.head u.tails → All NearRecord u.records
    → length (encode u) ≡ start + sum_by record_bytes u.records
encode-length u f g n =
    omega (arith, length-encode u f g, length-flat encode_record NearRecord record_bytes record_length u.records n)

-- The three lists of a table

-- what a record has of each
abbrev pub row_numbers : Record → ℕ
row_numbers r = Row.row_size (1 + length r.subobjects) (length r.items)

abbrev pub row_elements : Record → ℕ
row_elements r = (r.first.points + sum_by (λ a. a.points) r.subobjects) * length (widths r.reference)

abbrev pub row_bytes : Record → ℕ
row_bytes r = length r.first.text + (sum_by (λ a. length a.text) r.subobjects + sum_by (λ i. length i.value) r.items)

-- what pieces that are F have of each together
module _ {A : Type 0} (E : A → Table) (F : A → Type 0) (f : A → ℕ) where
  numbers-joined : ((a : A) → F a → length (E a).numbers ≡ f a) → (l : List A) → All F l → length (joined E l).numbers ≡ sum_by f l
  numbers-joined g [] h = refl
  numbers-joined g (a ∷ l) h = rw (length-append (E a).numbers (joined E l).numbers, g a h.0, numbers-joined g l h.1)

  elements-joined : ((a : A) → F a → length (E a).elements ≡ f a) → (l : List A) → All F l → length (joined E l).elements ≡ sum_by f l
  elements-joined g [] h = refl
  elements-joined g (a ∷ l) h = rw (length-append (E a).elements (joined E l).elements, g a h.0, elements-joined g l h.1)

  bytes-joined : ((a : A) → F a → length (E a).bytes ≡ f a) → (l : List A) → All F l → length (joined E l).bytes ≡ sum_by f l
  bytes-joined g [] h = refl
  bytes-joined g (a ∷ l) h = rw (length-append (E a).bytes (joined E l).bytes, g a h.0, bytes-joined g l h.1)

pub sum-times : {A : Type 0} (f : A → ℕ) (k : ℕ) (l : List A) → sum_by (λ a. f a * k) l ≡ sum_by f l * k
sum-times f k [] = sym (zero-mul k)
sum-times f k (a ∷ l) = rw (sum-times f k l) (sym (add-mul (f a) (sum_by f l) k))

sum-none : {A : Type 0} (l : List A) → sum_by (λ a. 0) l ≡ 0
sum-none [] = refl
sum-none (a ∷ l) = rw (sum-none l)

pub row-elements : (r : Record) → NearRecord r → length (flatten_record r).elements ≡ row_elements r
unfolding flatten_record flatten_header flatten_part flatten_item
row-elements r n =
    let ref = r.reference in
    let k = length (widths ref) in
    let M = (joined flatten_part r.subobjects).elements in
    let I = (joined flatten_item r.items).elements in
    let first = part-elements ref r.first n.first in
    let later =
    elements-joined flatten_part (FineSubobject ref _) (λ a. a.points * k) (λ a f. part-elements ref a f.part) r.subobjects n.subobjects in
    let items = elements-joined flatten_item FineItem (λ a. 0) (λ a f. refl) r.items n.items in
    let s = sum-times (λ (a : Part). a.points) k r.subobjects in
    let d = add-mul r.first.points (sum_by (λ (a : Part). a.points) r.subobjects) k in
    length-append r.first.elements (M ++ I)
    ∙ ap (λ x. length r.first.elements + x) (length-append M I)
    ∙ omega (arith, first, later, items, s, d, sum-none r.items)

pub row-bytes : (r : Record) → NearRecord r → length (flatten_record r).bytes ≡ row_bytes r
unfolding flatten_record flatten_header flatten_part flatten_item
row-bytes r n =
    let M = (joined flatten_part r.subobjects).bytes in
    let I = (joined flatten_item r.items).bytes in
    let later = bytes-joined flatten_part (FineSubobject r.reference _) (λ a. length a.text) (λ a f. refl) r.subobjects n.subobjects in
    let items = bytes-joined flatten_item FineItem (λ i. length i.value) (λ i f. refl) r.items n.items in
    omega (arith, length-append r.first.text (M ++ I), length-append M I, later, items)

pub flatten-sizes : (l : List Record) → All NearRecord l
    → (length (flatten l).numbers ≡ sum_by row_numbers l) × (length (flatten l).elements ≡ sum_by row_elements l)
    × (length (flatten l).bytes ≡ sum_by row_bytes l)
unfolding flatten
flatten-sizes l n = (
  numbers-joined flatten_record NearRecord row_numbers (λ r f. record_numbers r) l n,
  elements-joined flatten_record NearRecord row_elements row-elements l n,
  bytes-joined flatten_record NearRecord row_bytes row-bytes l n,
)
