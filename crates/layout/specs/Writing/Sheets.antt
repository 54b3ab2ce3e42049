-- The writer's walk over a head and a record table. (01, The record table)
--   "It checks the setting, then those by place in the sheet (TEXT for a text too long or with a zero), then the table number by number,
--   where place is the number's index. [..] Last TOO LONG, then ROOM."
use Rattle.std.specs.Prelude.{List, [], ◌∷◌, leb, length}
use Rattle.layout.specs.Fields.{limit}
use Rattle.layout.specs.Fields.Descriptor
use Rattle.layout.specs.Fields.Passport
use Rattle.layout.specs.Layout.Encode.{encode}
use Rattle.layout.specs.Refusals.{TOO_LONG}
use Rattle.layout.specs.Shared.Carried.{rest_checks, carried_checks}
use Rattle.layout.specs.Shared.Tails.{clean_sheet}
use Rattle.layout.specs.Shared.Texts.{text_fits}
use Rattle.layout.specs.Sheet.{Head, Sheet, Table}
use Rattle.layout.specs.Walk.{Walk, Check, must, checks, ◌>>=◌, ◌>>◌, ends}
use Rattle.layout.specs.Writing.Rows.{rows_walk}

unfoldable pub title_rules : Head → List Check
title_rules h =
    text_fits Passport.date h.date
    ∷ text_fits Passport.designation h.designation
    ∷ text_fits Passport.title h.title
    ∷ []

unfoldable pub head_walk : Head → Walk (Unit {0})
head_walk h = do
  checks 0 (title_rules h)
  checks 0 (rest_checks h.rest)
  checks 0 (text_fits Descriptor.designation h.designation2 ∷ [])
  checks 0 (carried_checks h.carried)

-- "TOO LONG: sheet over the limit; place 0"
unfoldable pub limit_rules : Sheet → List Check
limit_rules u = must (leb (length (encode u)) limit) TOO_LONG 0 ∷ []

unfoldable pub table_walk : Head → Table → Walk Sheet
table_walk h t = do
  head_walk h
  records ← rows_walk t
  let u : Sheet = clean_sheet h records
  checks 0 (limit_rules u)
  ends u
