-- Where the writer gives a sheet and there is room, the answer is true and the slices hold the table again. By the contracts of `write` and
-- `unfold` the arms that answer false cannot be come to (Trips).
use mathlib.Core.Path.{◌∙◌}
use native.Mathlib.Omega.{arith}
use Rattle.layout.specs.Answers.Lent.{head_of}
use Rattle.layout.specs.Sheet.{Head, Table}
use Rattle.layout.specs.Writing.Tables.{table}
use Rattle.promises.proofs.Trips.{sheet-within, back_filled, never_refused, never_unwritten}
use Rattle.promises.proofs.Answered.{ok_of}
use Rattle.promises.proofs.round.read_back.Goals as goal

pub part-requires : goal.part-requires
part-requires c =
    let head-lent : Head =
    head_of c.args.date.now c.args.designation.now c.args.scale c.args.title.now c.args.rest.now
    c.args.designation2.now c.args.carried.now in
    let table-lent : Table =
    table c.args.table.now c.args.elements.now c.args.bytes.now in
    sheet-within c.args.setting.year head-lent table-lent c.args.out.now _ _
    (c.write.ensures.answers, c.write.ensures.sheet) _ c.in-Ok.is

pub returns : goal.returns
returns c =
    let head-lent : Head =
    head_of c.args.date.now c.args.designation.now c.args.scale c.args.title.now c.args.rest.now
    c.args.designation2.now c.args.carried.now in
    let table-lent : Table =
    table c.args.table.now c.args.elements.now c.args.bytes.now in
    λ s e ok after i j k.
    let filled = back_filled c.args.setting.year head-lent table-lent c.args.out.now _ _
    (c.write.ensures.answers, c.write.ensures.sheet) _ c.in-Ok.is c.head.ensures c.bytes.ensures _
    c.part.ensures _ ok (omega (arith, after)) c.args.numbers.now c.args.pool.now c.args.texts.now
    _ _ _ _ (c.unfold.ensures.answers, (c.unfold.ensures.numbers, (c.unfold.ensures.pool, c.unfold.ensures.texts))) (i, j, k) in (
      c.is_ok.ensures.value ∙ ok_of _ (λ q no. never_refused c.args.setting.year head-lent table-lent c.args.out.now _ _
          (c.write.ensures.answers, c.write.ensures.sheet) _ c.in-Ok.is c.head.ensures c.bytes.ensures _
          c.part.ensures _ ok (omega (arith, after)) c.args.numbers.now c.args.pool.now c.args.texts.now
          _ _ _ _ (c.unfold.ensures.answers, (c.unfold.ensures.numbers, (c.unfold.ensures.pool, c.unfold.ensures.texts))) (i, j, k) q no),
      filled.0,
      filled.1,
      filled.2,
    )

pub returns-in_default : goal.returns-in_default
returns-in_default c =
    let head-lent : Head =
    head_of c.args.date.now c.args.designation.now c.args.scale c.args.title.now c.args.rest.now
    c.args.designation2.now c.args.carried.now in
    let table-lent : Table =
    table c.args.table.now c.args.elements.now c.args.bytes.now in
    λ s e ok after i j k.
    absurd (never_unwritten c.args.setting.year head-lent table-lent c.args.out.now _ _
    (c.write.ensures.answers, c.write.ensures.sheet) s e _ c.in_default.is)
