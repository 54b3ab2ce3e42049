-- The answers as programs in C hold them: each case as a struct, `number` 0 for success, and what an answer does not have is 0.
use Rattle.std.specs.Prelude.{ℕ, cond, List, ◌≡◌, refl, eqb, Float, pos}
use Rattle.std.specs.Float.{binary64}
use Rattle.std.specs.Float.Ieee.{nan_bits, of_int, of_bits, to_bits}
use Rattle.layout.specs.Answers.Coordinates.{measure_of}
use Rattle.layout.specs.Answers.Enums.{refusal}
use Rattle.layout.specs.Answers.Units.{number_of}
use Rattle.layout.specs.Answers.Values.{double_of}
use Rattle.layout.specs.Refusals.{ASK, refusal_number}
use Rattle.layout.specs.declared.Corners.{Corners}
use Rattle.layout.specs.declared.Corners.TheVariants as Corner
use Rattle.layout.specs.declared.Dimension.TheVariants.{North, East, Height}
use Rattle.layout.specs.declared.HeightUnit.{HeightUnit}
use Rattle.layout.specs.declared.HeightUnit.TheVariants as High
use Rattle.layout.specs.declared.Measured.{Measured}
use Rattle.layout.specs.declared.Measured.TheVariants as Measure
use Rattle.layout.specs.declared.Number.{Number}
use Rattle.layout.specs.declared.Number.TheVariants as Is
use Rattle.layout.specs.declared.PlaneCorners.{PlaneCorners}
use Rattle.layout.specs.declared.SemanticValue.{SemanticValue}
use Rattle.layout.specs.declared.SemanticValue.TheVariants as Value
use Rattle.layout.specs.declared.SheetUnit.{SheetUnit}
use Rattle.layout.specs.declared.SheetUnit.TheVariants as In
use Rattle.layout.specs.declared.Stored.{Stored}
use Rattle.layout.specs.declared.Stored.TheVariants as As
use Rattle.layout.specs.declared.Scales.{Scales}
use Rattle.layout.specs.declared.structs.SxfCoordinate.{SxfCoordinate}
use Rattle.layout.specs.declared.structs.SxfCorners.{SxfCorners}
use Rattle.layout.specs.declared.structs.SxfHead.{SxfHead}
use Rattle.layout.specs.declared.structs.SxfHop.{SxfHop}
use Rattle.layout.specs.declared.structs.SxfIndex.{SxfIndex}
use Rattle.layout.specs.declared.structs.SxfUnit.{SxfUnit}
use Rattle.layout.specs.declared.structs.SxfValue.{SxfValue}
use Rattle.layout.specs.declared.structs.SxfVisibility.{SxfVisibility}
use Rattle.layout.specs.declared.structs.SxfRecord.{SxfRecord}
use Rattle.layout.specs.declared.structs.SxfChecked.{SxfChecked}
use Rattle.layout.specs.declared.structs.SxfWritten.{SxfWritten}
use Rattle.layout.specs.declared.Sizes.{Sizes}
use Rattle.layout.specs.declared.RecordAt.{RecordAt}
use Rattle.layout.specs.declared.HeadAt.{HeadAt}
use Rattle.layout.specs.declared.IndexSizes.{IndexSizes}
use Rattle.layout.specs.declared.Hit.{Hit}
use Rattle.layout.specs.declared.Hop.{Hop}
use Rattle.layout.specs.declared.Refusal.{Refusal}
use Rattle.std.specs.Prelude.{Result, Ok, Err, Option, Some, None}

-- The version of the calls for C, `SXF_VERSION` of include/sxf.h. It is raised where a program has to be changed or built again: 2, since a
-- row has nine numbers and a record its mark (02, request 2); 3, since a head has four flags (02, request 6); 4, since a sheet and its index may need
-- more room than an older header says (02, request 7).
abbrev pub version : ℕ
version = 4

unfoldable pub checked_row : Result Sizes Refusal → SxfChecked
checked_row (Ok z) =
    record { number = 0; place = 0; year = 0; sum = z.sum; records = z.records; numbers = z.numbers; elements = z.elements; bytes = z.bytes }
checked_row (Err r) =
    record { number = refusal_number r.reason; place = r.place; year = r.year; sum = 0; records = 0; numbers = 0; elements = 0; bytes = 0 }

unfoldable pub written_row : Result ℕ Refusal → SxfWritten
written_row (Ok n) = record { number = 0; place = 0; year = 0; length = n }
written_row (Err r) = record { number = refusal_number r.reason; place = r.place; year = r.year; length = 0 }

unfoldable pub index_row : Result IndexSizes Refusal → SxfIndex
index_row (Ok z) = record { number = 0; place = 0; year = 0; entries = z.entries; blocks = z.blocks }
index_row (Err r) = record { number = refusal_number r.reason; place = r.place; year = r.year; entries = 0; blocks = 0 }

-- found is 1 where there is such a record; where there is none, number, place and total length are 0
abbrev pub hop_as : Option Hit → ℕ → SxfHop
hop_as (Some h) looked =
    record { number = 0; place = 0; year = 0; found = 1; «record» = h.«record»; at = h.place; total = h.total; looked = looked }
hop_as None looked = record { number = 0; place = 0; year = 0; found = 0; «record» = 0; at = 0; total = 0; looked = looked }

unfoldable pub hop_row : Result Hop Refusal → SxfHop
hop_row (Ok h) = hop_as h.hit h.looked
hop_row (Err r) =
    record { number = refusal_number r.reason; place = r.place; year = r.year; found = 0; «record» = 0; at = 0; total = 0; looked = 0 }

unfoldable pub record_row : Result RecordAt Refusal → SxfRecord
record_row (Ok x) =
    record {
      number = 0;
      place = 0;
      year = 0;
      at = x.place;
      total = x.total;
      code = x.code;
      in_group = x.in_group;
      group = x.group;
      reference = x.reference;
      generalisation = x.generalisation;
      word = x.word;
      parts = x.parts;
      items = x.items;
      mark = x.mark;
      points = x.points;
    }
record_row (Err r) =
    record {
      number = refusal_number r.reason;
      place = r.place;
      year = r.year;
      at = 0;
      total = 0;
      code = 0;
      in_group = 0;
      group = 0;
      reference = 0;
      generalisation = 0;
      word = 0;
      parts = 0;
      items = 0;
      mark = 0;
      points = 0;
    }

-- a flag is 1 where the field is clean
unfoldable pub head_row : Result HeadAt Refusal → SxfHead
head_row (Ok x) =
    record {
      number = 0;
      place = 0;
      year = 0;
      date = x.date.length;
      designation = x.designation.length;
      title = x.title.length;
      designation2 = x.designation2.length;
      scale = x.scale;
      date_clean = cond x.date.clean 1 0;
      designation_clean = cond x.designation.clean 1 0;
      title_clean = cond x.title.clean 1 0;
      designation2_clean = cond x.designation2.clean 1 0;
    }
head_row (Err r) =
    record {
      number = refusal_number r.reason;
      place = r.place;
      year = r.year;
      date = 0;
      designation = 0;
      title = 0;
      designation2 = 0;
      scale = 0;
      date_clean = 0;
      designation_clean = 0;
      title_clean = 0;
      designation2_clean = 0;
    }

-- a unit by its number, and the byte of an unknown one: device points 1, metres 2, radians 3, degrees 4, unknown 5
abbrev pub unit_as : ℕ → ℕ → SxfUnit
unit_as n byte = record { number = 0; place = 0; year = 0; «unit» = n; byte = byte }

unfoldable pub unit_known : SheetUnit → SxfUnit
unit_known In.DevicePoints = unit_as 1 0
unit_known In.Metres = unit_as 2 0
unit_known In.Radians = unit_as 3 0
unit_known In.Degrees = unit_as 4 0
unit_known (In.Unknown b) = unit_as 5 b

unfoldable pub height_unit_known : HeightUnit → SxfUnit
height_unit_known High.Metres = unit_as 2 0
height_unit_known (High.Unknown b) = unit_as 5 b

unfoldable pub unit_row : Result SheetUnit Refusal → SxfUnit
unit_row (Ok u) = unit_known u
unit_row (Err r) = record { number = refusal_number r.reason; place = r.place; year = r.year; «unit» = 0; byte = 0 }

-- the bits of each double
abbrev bits : Float → ℕ
bits x = to_bits binary64 x

abbrev pub bits_of : PlaneCorners Float → PlaneCorners ℕ
bits_of d =
    record {
      sw_x = bits d.sw_x;
      sw_y = bits d.sw_y;
      nw_x = bits d.nw_x;
      nw_y = bits d.nw_y;
      ne_x = bits d.ne_x;
      ne_y = bits d.ne_y;
      se_x = bits d.se_x;
      se_y = bits d.se_y;
    }

abbrev pub bits_row : ℕ → PlaneCorners ℕ → SxfCorners
bits_row nan b =
    record {
      number = 0;
      place = 0;
      year = 0;
      nan_at = nan;
      sw_x = b.sw_x;
      sw_y = b.sw_y;
      nw_x = b.nw_x;
      nw_y = b.nw_y;
      ne_x = b.ne_x;
      ne_y = b.ne_y;
      se_x = b.se_x;
      se_y = b.se_y;
    }

unfoldable pub corners_row : Result Corners Refusal → SxfCorners
corners_row (Ok (Corner.Doubles d)) = bits_row 0 (bits_of d)
corners_row (Ok (Corner.Bits place b)) = bits_row place b
corners_row (Err r) =
    record {
      number = refusal_number r.reason;
      place = r.place;
      year = r.year;
      nan_at = 0;
      sw_x = 0;
      sw_y = 0;
      nw_x = 0;
      nw_y = 0;
      ne_x = 0;
      ne_y = 0;
      se_x = 0;
      se_y = 0;
    }

unfoldable pub visibility_row : Option Scales → SxfVisibility
visibility_row None = record { set = 0; lower = 0; upper = 0 }
visibility_row (Some b) = record { set = 1; lower = b.lower; upper = b.upper }

-- What a number is, by its number: whole 1, single 2, double 3, a NaN 4, and for an item's value besides decimal 5, or none 0.
-- The double that it stands for, by its bits; a NaN stands for none and has those stored.
abbrev pub number_kind : Number → ℕ
number_kind (Is.Whole z) = 1
number_kind (Is.Single x) = 2
number_kind (Is.Double x) = 3
number_kind (Is.NotNumber b) = 4

abbrev pub number_bits : Number → ℕ
number_bits (Is.Whole z) = bits (of_int binary64 z)
number_bits (Is.Single x) = bits x
number_bits (Is.Double x) = bits x
number_bits (Is.NotNumber b) = b

-- how many bytes an element has
abbrev pub stored_width : Stored → ℕ
stored_width (As.Short b) = 2
stored_width (As.Long b) = 4
stored_width (As.Single b) = 4
stored_width (As.Double b) = 8

-- an element with its unit
abbrev pub coordinate_as : SxfUnit → Stored → SxfCoordinate
coordinate_as u e =
    record {
      number = 0;
      place = 0;
      year = 0;
      «unit» = u.«unit»;
      byte = u.byte;
      width = stored_width e;
      kind = number_kind (number_of e);
      bits = number_bits (number_of e);
    }

unfoldable pub coordinate_row : Result Measured Refusal → SxfCoordinate
coordinate_row (Ok (Measure.Plane u e)) = coordinate_as (unit_known u) e
coordinate_row (Ok (Measure.Height u e)) = coordinate_as (height_unit_known u) e
coordinate_row (Err r) =
    record { number = refusal_number r.reason; place = r.place; year = r.year; «unit» = 0; byte = 0; width = 0; kind = 0; bits = 0 }

-- A dimension by its number, which is that of its element in a point: north 0, east 1, height 2; another is ASK.
unfoldable pub measure_by : List ℕ → ℕ → ℕ → ℕ → Result Measured Refusal
measure_by rest reference dimension bits =
    cond (eqb dimension 0) (measure_of rest reference North bits)
    (cond (eqb dimension 1) (measure_of rest reference East bits)
    (cond (eqb dimension 2) (measure_of rest reference Height bits) (Err (refusal ASK 0 0))))

-- a value that is no decimal
abbrev pub plain_row : ℕ → ℕ → SxfValue
plain_row kind b = record { number = 0; place = 0; year = 0; kind = kind; bits = b; whole = pos 0; power = pos 0 }

unfoldable pub value_row : Result SemanticValue Refusal → SxfValue
value_row (Ok (Value.Number d)) = record { number = 0; place = 0; year = 0; kind = 5; bits = 0; whole = d.whole; power = d.power }
value_row (Ok (Value.Double x)) = plain_row 3 (bits x)
value_row (Ok (Value.NotNumber b)) = plain_row 4 b
value_row (Ok (Value.Other t)) = plain_row 0 0
value_row (Err r) = record { number = refusal_number r.reason; place = r.place; year = r.year; kind = 0; bits = 0; whole = pos 0; power = pos 0 }

-- The least integer of four bytes, in metres, is -2147483648; a single's least number is a double like another; a NaN keeps its bits.
coordinates : (coordinate_row (Ok (Measure.Plane In.Metres (As.Long 0x80000000)))
    ≡ record { number = 0; place = 0; year = 0; «unit» = 2; byte = 0; width = 4; kind = 1; bits = 0xC1E0000000000000 })
    × (coordinate_row (Ok (Measure.Plane In.DevicePoints (As.Short 3)))
    ≡ record { number = 0; place = 0; year = 0; «unit» = 1; byte = 0; width = 2; kind = 1; bits = 0x4008000000000000 })
    × (coordinate_row (Ok (Measure.Height (High.Unknown 9) (As.Single 1)))
    ≡ record { number = 0; place = 0; year = 0; «unit» = 5; byte = 9; width = 4; kind = 2; bits = 0x36A0000000000000 })
    × (coordinate_row (Ok (Measure.Height High.Metres (As.Double 0x7FF8000000000001)))
    ≡ record { number = 0; place = 0; year = 0; «unit» = 2; byte = 0; width = 8; kind = 4; bits = 0x7FF8000000000001 })
unfolding coordinate_row unit_known height_unit_known number_of of_int of_bits to_bits nan_bits
coordinates = (refl, refl, refl, refl)

values : (value_row (Ok (double_of 0x8000000000000000)) ≡ plain_row 3 0x8000000000000000) × (value_row (Ok (double_of 0x7FF0000000000001)) ≡ plain_row 4 0x7FF0000000000001)
unfolding value_row double_of of_bits to_bits nan_bits
values = (refl, refl)
