-- "Passport, 400 bytes (000, table 1)" (01)
use Rattle.std.specs.Prelude.{ℕ, ◌-◌}
use Rattle.layout.specs.Bytes.{Field, field}

-- "+0 identifier 0x00465853"
abbrev pub identifier : Field
identifier = field 0 4

abbrev pub identifier_is : ℕ
identifier_is = 0x00465853

-- "+4 length 400"
abbrev pub own_length : Field
own_length = field 4 4

abbrev pub own_length_is : ℕ
own_length_is = 400

-- "+8 edition 0x00040000"
abbrev pub edition : Field
edition = field 8 4

abbrev pub edition_is : ℕ
edition_is = 0x00040000

-- "+12 sum"
abbrev pub sum : Field
sum = field 12 4

-- "+16 date, 12 bytes of text"
abbrev pub date : Field
date = field 16 12

-- "+28 designation, 32"
abbrev pub designation : Field
designation = field 28 32

-- "+60 scale denominator"
abbrev pub scale : Field
scale = field 60 4

-- "+64 title, 32"
abbrev pub title : Field
title = field 64 32

-- "+96 to +399 the rest": 304 bytes, carried
abbrev pub rest : Field
rest = field 96 304

-- the rest, byte by byte as far as it is looked at: flags at +96, "+97 label coding", "+98 accuracy", "+99 bit 0 special sorting"
abbrev pub flags : Field
flags = field 96 1

abbrev pub labels : Field
labels = field 97 1

abbrev pub accuracy : Field
accuracy = field 98 1

abbrev pub sorting : Field
sorting = field 99 1

-- "+100 EPSG"
abbrev pub epsg : Field
epsg = field 100 4

-- "+104 eight doubles, plane corners"
abbrev pub corners : Field
corners = field 104 64

-- "in metres, radians or degrees as +236 is 0, 64 or 65"
abbrev pub unit : Field
unit = field 236 1

-- "Единица измерения по высоте" (000, table 1: the sixth of the eight bytes at +232)
abbrev pub height_unit : Field
height_unit = field 237 1

-- "+312 signed resolution"
abbrev pub resolution : Field
resolution = field 312 4

-- "The frame of the sheet is the record whose code equals passport +348." (02, request 5); "Классификационный код рамки листа карты", 4
-- bytes (000, table 1)
abbrev pub frame : Field
frame = field 348 4

-- "+384 and +392 north and east offsets"
abbrev pub north : Field
north = field 384 8

abbrev pub east : Field
east = field 392 8

-- a field of the rest, counted from the start of the rest
abbrev pub in_rest : Field → Field
in_rest f = field (f.place - rest.place) f.width
