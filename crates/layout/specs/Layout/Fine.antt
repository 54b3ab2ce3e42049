-- What the values of a sheet must keep to be one. Each number fits its field, and the documents' rules hold.
use Rattle.std.specs.Prelude.{ℕ, ◌^◌, ◌≤◌, ◌<◌, Bool, true, false, List, [], ◌≡◌, length}
use Rattle.layout.specs.Bytes.{All, Bytes, Field, FitAll, repeat, some, agree}
use Rattle.layout.specs.Fields.{limit}
use Rattle.layout.specs.Fields.Descriptor
use Rattle.layout.specs.Fields.Header
use Rattle.layout.specs.Fields.Item as ItemField
use Rattle.layout.specs.Fields.Passport
use Rattle.layout.specs.Fields.Subobject
use Rattle.layout.specs.Layout.Encode.{encode_record, encode}
use Rattle.layout.specs.Shared.Carried.{rest_checks, carried_checks}
use Rattle.layout.specs.Shared.Mark.{has_mark, good_first, good_n1, n1_of}
use Rattle.layout.specs.Shared.Reference.{reference_checks, semantics, text_in_metric}
use Rattle.layout.specs.Shared.Texts.{FineText, FineTail}
use Rattle.layout.specs.Shared.Types.{kind_of, is_known, good_scale, value_length, good_length, is_closed}
use Rattle.layout.specs.Shared.Widths.{widths}
use Rattle.layout.specs.Sheet.{Item, Part, Reference, Record, Head, Tails, Sheet}
use Rattle.layout.specs.Walk.{Holds}

-- a number that a field can hold, and a run of bytes that fills one
abbrev pub Fits : Field → ℕ → Type 0
Fits f v = v < 256 ^ f.width

abbrev pub Fills : Field → List ℕ → Type 0
Fills f v = (length v ≡ f.width) × Bytes v

pub record FineItem (i : Item) : Type 0 where
  pub code : Fits ItemField.code i.code
  pub type : Fits ItemField.type i.type
  pub scale : Fits ItemField.scale i.scale
  pub known : is_known (kind_of i.type) ≡ true
  pub scaled : good_scale (kind_of i.type) i.scale ≡ true
  -- the value has its type's length, and with type 128 one that fits its own field
  pub sized : length i.value ≡ value_length (kind_of i.type) i.scale (length i.value)
  pub measured : good_length (kind_of i.type) (length i.value) ≡ true
  pub short : Fits ItemField.long_length (length i.value)
  pub closed : is_closed (kind_of i.type) i.value ≡ true
  pub is_bytes : Bytes i.value

-- a label's text: none without the text bit, else one that a length byte can count
abbrev pub FineLabel : Bool → List ℕ → Type 0
FineLabel false t = t ≡ []
FineLabel true t = (length t < 256) × Bytes t

-- a part of a record whose reference bytes are r
pub record FinePart (r : Reference) (a : Part) : Type 0 where
  pub elements : FitAll (repeat a.points (widths r)) a.elements
  pub label : FineLabel (text_in_metric r) a.text

-- "With the mark its count is N2 + 65536 × N1. Without it N1 must be 0."
pub record FineSubobject (r : Reference) (marked : Bool) (a : Part) : Type 0 where
  pub n1 : Fits Subobject.n1 (n1_of a.points)
  pub counted : good_n1 marked (n1_of a.points) ≡ true
  pub part : FinePart r a

pub record FineRecord (r : Record) : Type 0 where
  pub total : Fits Header.total (length (encode_record r))
  pub code : Fits Header.code r.code
  pub in_group : Fits Header.in_group r.in_group
  pub group : Fits Header.group r.group
  pub byte20 : Fits Header.byte20 r.reference.byte20
  pub byte21 : Fits Header.byte21 r.reference.byte21
  pub byte22 : Fits Header.byte22 r.reference.byte22
  pub generalisation : Fits Header.generalisation r.generalisation
  pub word : Fits Header.word r.word
  pub count : Fits Header.subobjects (length r.subobjects)
  pub reference : Holds (reference_checks (Header.byte20).place (Header.byte21).place (Header.byte22).place r.reference)
  -- "mark 0 or 1"; "a first count over 65534 needs mark 1", and under the mark the word is the first count (02, request 2)
  pub mark : r.mark ≤ 1
  pub counted : good_first r.mark r.word r.first.points ≡ true
  pub first : FinePart r.reference r.first
  pub subobjects : All (FineSubobject r.reference (has_mark r.mark)) r.subobjects
  -- "the flag is set exactly when there are such bytes"
  pub flagged : agree (semantics r.reference) (some r.items) ≡ true
  pub items : All FineItem r.items

pub record FineHead (h : Head) : Type 0 where
  pub date : FineText Passport.date h.date
  pub designation : FineText Passport.designation h.designation
  pub scale : Fits Passport.scale h.scale
  pub title : FineText Passport.title h.title
  pub rest : Fills Passport.rest h.rest
  pub rest_holds : Holds (rest_checks h.rest)
  pub designation2 : FineText Descriptor.designation h.designation2
  pub carried : Fills Descriptor.carried h.carried
  pub carried_holds : Holds (carried_checks h.carried)

-- the tails that go with the texts of a head
pub record FineTails (h : Head) (tails : Tails) : Type 0 where
  pub date : FineTail Passport.date h.date tails.date
  pub designation : FineTail Passport.designation h.designation tails.designation
  pub title : FineTail Passport.title h.title tails.title
  pub designation2 : FineTail Descriptor.designation h.designation2 tails.designation2

pub record Fine (t : Sheet) : Type 0 where
  pub short : length (encode t) ≤ limit
  pub head : FineHead t.head
  pub tails : FineTails t.head t.tails
  pub count : Fits Descriptor.count (length t.records)
  pub records : All FineRecord t.records
