-- The bytes of a sheet. Lengths, counts and the sum are computed.
use Rattle.std.specs.Prelude.{ℕ, ◌+◌, Bool, true, false, List, [], ◌∷◌, ◌++◌, length, replicate}
use Rattle.layout.specs.Bytes.{bytes, stored, stored_all, repeat, flat, total, low32}
use Rattle.layout.specs.Fields.Descriptor
use Rattle.layout.specs.Fields.Header
use Rattle.layout.specs.Fields.Item as ItemField
use Rattle.layout.specs.Fields.Passport
use Rattle.layout.specs.Fields.Subobject
use Rattle.layout.specs.Shared.Mark.{points_of, n1_of, n2_of}
use Rattle.layout.specs.Shared.Reference.{text_in_metric}
use Rattle.layout.specs.Shared.Texts.{tailed}
use Rattle.layout.specs.Shared.Types.{kind_of, length_bytes}
use Rattle.layout.specs.Shared.Widths.{widths}
use Rattle.layout.specs.Sheet.{Item, Part, Reference, Record, Head, Tails, Sheet}

-- "Each item: code (2), type (1), scale (1), value", and with type 128 a length before the value
unfoldable pub encode_item : Item → List ℕ
encode_item i =
    stored ItemField.code i.code
    ++ stored ItemField.type i.type
    ++ stored ItemField.scale i.scale
    ++ bytes (length_bytes (kind_of i.type)) (length i.value)
    ++ i.value

-- "With text, each part ends with a length byte L, L bytes and one zero."
unfoldable pub encode_text : Bool → List ℕ → List ℕ
encode_text false t = []
encode_text true t = bytes 1 (length t) ++ t ++ 0 ∷ []

-- the first part of a record whose reference bytes are r
unfoldable pub encode_part : Reference → Part → List ℕ
encode_part r a = stored_all (repeat a.points (widths r)) a.elements ++ encode_text (text_in_metric r) a.text

-- "Each subobject starts with N1 and N2"
unfoldable pub encode_subobject : Reference → Part → List ℕ
encode_subobject r a = stored Subobject.n1 (n1_of a.points) ++ stored Subobject.n2 (n2_of a.points) ++ encode_part r a

unfoldable pub encode_metric : Record → List ℕ
encode_metric r = encode_part r.reference r.first ++ flat (encode_subobject r.reference) r.subobjects

unfoldable pub encode_semantics : Record → List ℕ
encode_semantics r = flat encode_item r.items

-- the header of a record whose metric and semantics have so many bytes
unfoldable pub encode_header : Record → ℕ → ℕ → List ℕ
encode_header r metric semantics =
    stored Header.identifier Header.identifier_is
    ++ stored Header.total (Header.size + metric + semantics)
    ++ stored Header.metric metric
    ++ stored Header.code r.code
    ++ stored Header.in_group r.in_group
    ++ stored Header.group r.group
    ++ stored Header.byte20 r.reference.byte20
    ++ stored Header.byte21 r.reference.byte21
    ++ stored Header.byte22 r.reference.byte22
    ++ stored Header.generalisation r.generalisation
    ++ stored Header.word r.word
    ++ stored Header.subobjects (length r.subobjects)
    ++ stored Header.points (points_of r.mark r.first.points)

unfoldable pub encode_record : Record → List ℕ
encode_record r = encode_header r (length (encode_metric r)) (length (encode_semantics r)) ++ encode_metric r ++ encode_semantics r

-- passport and descriptor, with the tails of the texts, a sum and a record count
unfoldable pub encode_head : Head → Tails → ℕ → ℕ → List ℕ
encode_head h tails sum count =
    stored Passport.identifier Passport.identifier_is
    ++ stored Passport.own_length Passport.own_length_is
    ++ stored Passport.edition Passport.edition_is
    ++ stored Passport.sum sum
    ++ tailed h.date tails.date
    ++ tailed h.designation tails.designation
    ++ stored Passport.scale h.scale
    ++ tailed h.title tails.title
    ++ h.rest
    ++ stored Descriptor.identifier Descriptor.identifier_is
    ++ stored Descriptor.own_length Descriptor.own_length_is
    ++ tailed h.designation2 tails.designation2
    ++ stored Descriptor.count count
    ++ h.carried
    ++ replicate (Descriptor.reserved).width 0

-- the sheet with a number in the field of its sum
unfoldable pub encode_with : Sheet → ℕ → List ℕ
encode_with t sum = encode_head t.head t.tails sum (length t.records) ++ flat encode_record t.records

-- "all bytes of the sheet as numbers 0 to 255, with the four bytes at 12 counted as zero"; "only its low 32 are kept" (02, request 7)
unfoldable pub sheet_sum : Sheet → ℕ
sheet_sum t = low32 (total (encode_with t 0))

unfoldable pub encode : Sheet → List ℕ
encode t = encode_with t (sheet_sum t)
