-- What is written of a fine sheet is bytes, and so is the pool of its table.
use mathlib.Core.Bool.{Bool, true, false}
use mathlib.Core.List.{List, [], ◌∷◌, ◌++◌}
use Prim.Native.Nat.{ℕ, zero, suc, ◌+◌, ◌-◌, ◌<◌}
use lib.ListN.{length, replicate}
use native.Mathlib.Omega.{arith}
use Rattle.layout.specs.Bytes.{All, Bytes, Field, flat, bytes, stored, stored_all, repeat}
use Rattle.layout.specs.Fields.Descriptor
use Rattle.layout.specs.Fields.Header
use Rattle.layout.specs.Fields.Item as ItemField
use Rattle.layout.specs.Fields.Passport
use Rattle.layout.specs.Fields.Subobject
use Rattle.layout.specs.Layout.Encode.{encode_item, encode_text, encode_part, encode_subobject, encode_metric, encode_semantics, encode_header, encode_record}
use Rattle.layout.specs.Layout.Encode.{encode_head, encode_with, sheet_sum, encode}
use Rattle.layout.specs.Layout.Fine.{FineItem, FineLabel, FinePart, FineSubobject, FineRecord, FineHead, FineTails, Fine}
use Rattle.layout.specs.Shared.Mark.{points_of}
use Rattle.layout.specs.Shared.Reference.{text_in_metric}
use Rattle.layout.specs.Shared.Texts.{tailed, FineText, FineTail}
use Rattle.layout.specs.Shared.Types.{kind_of, length_bytes}
use Rattle.layout.specs.Shared.Widths.{widths}
use Rattle.layout.specs.Sheet.{Item, Part, Reference, Record, Head, Tails, Sheet, Table}
use Rattle.layout.specs.Writing.Tables.{joined, flatten_header, flatten_part, flatten_item, flatten_record, flatten}
use Rattle.laws.proofs.Base.Lists.{all_append}
use Rattle.laws.proofs.Base.Numbers.{bytes-bytes}

-- a list of bytes, as a record so that antt finds the list
pub record Plain (s : List ℕ) : Type 0 where
  pub is_bytes : Bytes s

abbrev plain : (s : List ℕ) → Bytes s → Plain s
plain s b = record { is_bytes = b }

infixl 20 ◌⊹◌
pub ◌⊹◌ : {s t : List ℕ} → Plain s → Plain t → Plain (s ++ t)
◌⊹◌ {s} {t} a b = plain (s ++ t) ((all_append (λ x. x < 256) s t).1 (a.is_bytes, b.is_bytes))

pub flat-plain : {A : Type 0} (E : A → List ℕ) (F : A → Type 0) → ((a : A) → F a → Plain (E a)) → (l : List A) → All F l → Plain (flat E l)
flat-plain E F g [] h = plain [] tt
flat-plain E F g (a ∷ l) h = g a h.0 ⊹ flat-plain E F g l h.1

number-plain : (n v : ℕ) → Plain (bytes n v)
number-plain n v = plain (bytes n v) (bytes-bytes n v)

pub stored-plain : (f : Field) (v : ℕ) → Plain (stored f v)
stored-plain f v = number-plain f.width v

all_plain : (ws vs : List ℕ) → Plain (stored_all ws vs)
all_plain [] vs = plain [] tt
all_plain (w ∷ ws) [] = plain [] tt
all_plain (w ∷ ws) (v ∷ vs) = number-plain w v ⊹ all_plain ws vs

pub zeros-plain : (n : ℕ) → Plain (replicate n 0)
zeros-plain zero = plain [] tt
zeros-plain (suc n) = plain _ (omega arith, (zeros-plain n).is_bytes)

tailed-plain : (f : Field) (t a : List ℕ) → FineText f t → FineTail f t a → Plain (tailed t a)
tailed-plain f t a h g = plain t h.is_bytes ⊹ plain (0 ∷ a) (omega arith, g.is_bytes)

label-plain : (b : Bool) (t : List ℕ) → FineLabel b t → Plain t
label-plain true t f = plain t f.1
label-plain false t f = rw f (plain [] tt)

text-plain : (b : Bool) (t : List ℕ) → FineLabel b t → Plain (encode_text b t)
unfolding encode_text
text-plain false t f = plain [] tt
text-plain true t f = number-plain 1 (length t) ⊹ plain t f.1 ⊹ zeros-plain 1

part-plain : (r : Reference) (a : Part) → FinePart r a → Plain (encode_part r a)
unfolding encode_part
part-plain r a f = all_plain (repeat a.points (widths r)) a.elements ⊹ text-plain (text_in_metric r) a.text f.label

subobject_plain : (r : Reference) (marked : Bool) (a : Part) → FineSubobject r marked a → Plain (encode_subobject r a)
unfolding encode_subobject
subobject_plain r marked a f = stored-plain Subobject.n1 _ ⊹ stored-plain Subobject.n2 _ ⊹ part-plain r a f.part

item-plain : (i : Item) → FineItem i → Plain (encode_item i)
unfolding encode_item
item-plain i f =
    stored-plain ItemField.code i.code
    ⊹ stored-plain ItemField.type i.type
    ⊹ stored-plain ItemField.scale i.scale
    ⊹ number-plain (length_bytes (kind_of i.type)) (length i.value)
    ⊹ plain i.value f.is_bytes

header-plain : (r : Record) (metric semantics : ℕ) → Plain (encode_header r metric semantics)
unfolding encode_header
header-plain r metric semantics =
    stored-plain Header.identifier Header.identifier_is
    ⊹ stored-plain Header.total (Header.size + metric + semantics)
    ⊹ stored-plain Header.metric metric
    ⊹ stored-plain Header.code r.code
    ⊹ stored-plain Header.in_group r.in_group
    ⊹ stored-plain Header.group r.group
    ⊹ stored-plain Header.byte20 r.reference.byte20
    ⊹ stored-plain Header.byte21 r.reference.byte21
    ⊹ stored-plain Header.byte22 r.reference.byte22
    ⊹ stored-plain Header.generalisation r.generalisation
    ⊹ stored-plain Header.word r.word
    ⊹ stored-plain Header.subobjects (length r.subobjects)
    ⊹ stored-plain Header.points (points_of r.mark r.first.points)

pub record_plain : (r : Record) → FineRecord r → Plain (encode_record r)
unfolding encode_record encode_metric encode_semantics
record_plain r f =
    let ref = r.reference in
    let later = flat-plain (encode_subobject ref) (FineSubobject ref _) (subobject_plain ref _) r.subobjects f.subobjects in
    header-plain r _ _ ⊹ (part-plain ref r.first f.first ⊹ later) ⊹ flat-plain encode_item FineItem item-plain r.items f.items

head_plain : (h : Head) (a : Tails) (sum count : ℕ) → FineHead h → FineTails h a → Plain (encode_head h a sum count)
unfolding encode_head
head_plain h a sum count f g =
    stored-plain Passport.identifier Passport.identifier_is
    ⊹ stored-plain Passport.own_length Passport.own_length_is
    ⊹ stored-plain Passport.edition Passport.edition_is
    ⊹ stored-plain Passport.sum sum
    ⊹ tailed-plain Passport.date h.date a.date f.date g.date
    ⊹ tailed-plain Passport.designation h.designation a.designation f.designation g.designation
    ⊹ stored-plain Passport.scale h.scale
    ⊹ tailed-plain Passport.title h.title a.title f.title g.title
    ⊹ plain h.rest f.rest.1
    ⊹ stored-plain Descriptor.identifier Descriptor.identifier_is
    ⊹ stored-plain Descriptor.own_length Descriptor.own_length_is
    ⊹ tailed-plain Descriptor.designation h.designation2 a.designation2 f.designation2 g.designation2
    ⊹ stored-plain Descriptor.count count
    ⊹ plain h.carried f.carried.1
    ⊹ zeros-plain 4

-- a sheet, with any number in the field of the sum
pub with-bytes : (u : Sheet) (sum : ℕ) → FineHead u.head → FineTails u.head u.tails → All FineRecord u.records → Bytes (encode_with u sum)
unfolding encode_with
with-bytes u sum h g f =
    let p : Plain (encode_with u sum) =
    head_plain u.head u.tails sum (length u.records) h g ⊹ flat-plain encode_record FineRecord record_plain u.records f in
    p.is_bytes

pub encode-bytes : (u : Sheet) → Fine u → Bytes (encode u)
unfolding encode
encode-bytes u f = with-bytes u (sheet_sum u) f.head f.tails f.records

-- The pool

pool_plain : {A : Type 0} (E : A → Table) (F : A → Type 0) → ((a : A) → F a → Plain (E a).bytes) → (l : List A) → All F l → Plain (joined E l).bytes
pool_plain E F g [] h = plain [] tt
pool_plain E F g (a ∷ l) h = g a h.0 ⊹ pool_plain E F g l h.1

record_pool : (r : Record) → FineRecord r → Plain (flatten_record r).bytes
unfolding flatten_record flatten_header flatten_part flatten_item
record_pool r f =
    let ref = r.reference in
    let text = text_in_metric ref in
    label-plain text r.first.text f.first.label
    ⊹ (pool_plain flatten_part (FineSubobject ref _) (λ a g. label-plain text a.text g.part.label) r.subobjects f.subobjects
    ⊹ pool_plain flatten_item FineItem (λ i g. plain i.value g.is_bytes) r.items f.items)

pub pool_bytes : (u : Sheet) → Fine u → Bytes (flatten u.records).bytes
unfolding flatten
pool_bytes u f = (pool_plain flatten_record FineRecord record_pool u.records f.records).is_bytes
