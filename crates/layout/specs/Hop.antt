-- The first record with a wanted code, and the frame of the sheet, without reading the sheet. (02, request 5: "Give the first record with a
-- wanted code by hopping from header to header, stopping at the first hit or after the counted records, with the number of headers looked at in
-- the answer.") No setting is asked for.
use Rattle.std.specs.Prelude.{ℕ, zero, suc, ◌+◌, cond, Option, Some, None, List, [], ◌∷◌, ◌++◌, eqb, leb, length, drop}
use Rattle.layout.specs.Bytes.{field, number_in, bytes_in}
use Rattle.layout.specs.Fields.Descriptor
use Rattle.layout.specs.Fields.Header as Field
use Rattle.layout.specs.Fields.Passport
use Rattle.layout.specs.Layout.Encode.{encode_record}
use Rattle.layout.specs.Reading.Records.{Header, header_in, header_left, total_checks}
use Rattle.layout.specs.Reading.Sheets.{start, size_checks, fixed}
use Rattle.layout.specs.Refusals.{NOT_SXF}
use Rattle.layout.specs.Sheet.{Record, Head}
use Rattle.layout.specs.Walk.{Walk, Answer, Check, checks, ◌>>=◌, ◌>>◌, ends, stops, meets, answer, always}
use Rattle.layout.specs.declared.Hit.{Hit}
use Rattle.layout.specs.declared.Hop.{Hop}

-- A hit: the record's number from 0, its place and its total length. seen is how many headers were looked at before this one, and so the record's
-- number. "That number is the hit's number plus one, or the record count if there is none."
abbrev pub hit : ℕ → ℕ → ℕ → Hop
hit seen place total = record { hit = Some (record { «record» = seen; place = place; total = total }); looked = seen + 1 }

-- No hit: every counted header was looked at.
abbrev pub no_hit : ℕ → Hop
no_hit seen = record { hit = None; looked = seen }

-- "That number is the hit's number plus one, or the record count if there is none."
abbrev pub looked_for : Option Hit → ℕ → ℕ
looked_for (Some x) count = x.«record» + 1
looked_for None count = count

-- how many of so many headers that were looked at come before the hit: all, if there is none
abbrev pub misses : Option Hit → ℕ → ℕ
misses (Some x) looked = x.«record»
misses None looked = looked

-- What is asked of a header before its code is looked at; xs are the bytes from the record's start on. "Refusals: 1, 2, 3 and 10 as for sheet
-- size, identifiers and total lengths, header by header; contents and sum aren't checked."
unfoldable pub hop_checks : List ℕ → List Check
hop_checks xs = header_left (length xs) ∷ total_checks (length xs) (header_in xs)

-- So many records are left, and so many headers were looked at before; the next record starts at a place of s. With `_ ←` what follows the checks
-- is computed only where they hold, so that a count near 2^32 is not walked past the last byte.
unfoldable pub hop_from : ℕ → ℕ → ℕ → ℕ → List ℕ → Walk Hop
hop_from wanted zero seen place s = ends (no_hit seen)
hop_from wanted (suc left) seen place s = do
  let h : Header = header_in (drop place s)
  _ ← checks place (hop_checks (drop place s))
  cond (eqb h.code wanted) (ends (hit seen place h.total)) (hop_from wanted left (suc seen) (place + h.total) s)

-- The sheet's size and its two identifiers; no length, edition, sum, text or flag.
unfoldable pub start_checks : List ℕ → List Check
start_checks s =
    size_checks s
    ++ (fixed Passport.identifier Passport.identifier_is NOT_SXF s ∷ fixed Descriptor.identifier Descriptor.identifier_is NOT_SXF s ∷ [])

unfoldable pub hop_walk : ℕ → List ℕ → Walk Hop
hop_walk wanted s = do
  checks 0 (start_checks s)
  hop_from wanted (number_in Descriptor.count s) 0 start s

unfoldable pub hop : ℕ → List ℕ → Answer Hop
hop wanted s = answer always (hop_walk wanted s)

-- "The frame of the sheet is the record whose code equals passport +348."; 0 is a code like any other, and a sheet that is too short to have one is
-- SHORT
unfoldable pub frame : List ℕ → Answer Hop
frame s = hop (number_in Passport.frame s) s

-- "On an accepted sheet the answer equals the one from the full reading": that one, which no call computes. Among the records of a reading it is the
-- first that has the code; the first in the list has this number and starts at this place.
abbrev pub first_with : ℕ → ℕ → ℕ → List Record → Hop
first_with wanted number place [] = no_hit number
first_with wanted number place (r ∷ rs) =
    let total : ℕ = length (encode_record r) in
    cond (eqb r.code wanted) (hit number place total) (first_with wanted (suc number) (place + total) rs)

-- the frame's code in the head of a reading
abbrev pub frame_code : Head → ℕ
frame_code h = number_in (Passport.in_rest Passport.frame) h.rest

-- what f gives for what a walk ends in, and nothing where it stops
abbrev pub past : {A : Type 0} → Walk A → (A → List ℕ) → List ℕ
past (ends a) f = f a
past (stops reason place) f = []
past (meets place year w) f = past w f

-- "On other bytes it says only what the headers passed so far say." The headers passed: the places of those that are looked at, in order, up to
-- the hit or the refusal. A header is looked at where 32 bytes are left for it.
unfoldable pub passed_from : ℕ → ℕ → ℕ → List ℕ → List ℕ
passed_from wanted zero place s = []
passed_from wanted (suc left) place s =
    let h : Header = header_in (drop place s) in
    cond (leb Field.size (length (drop place s)))
    (place ∷ past (checks place (hop_checks (drop place s))) (λ _. cond (eqb h.code wanted) [] (passed_from wanted left (place + h.total) s)))
    []

unfoldable pub passed : ℕ → List ℕ → List ℕ
passed wanted s = past (checks 0 (start_checks s)) (λ _. passed_from wanted (number_in Descriptor.count s) start s)

-- the bytes of the header at a place
abbrev pub header_bytes : ℕ → List ℕ → List ℕ
header_bytes place s = bytes_in (field place Field.size) s
