-- Where the sheet unfolds and there is room, the answer is true and the slice begins with the sheet, cleared. By the contracts of `unfold`,
-- `head_of` and `write_read` the arms that answer false cannot be come to (Trips).
use mathlib.Core.Path.{◌∙◌}
use Rattle.promises.proofs.Trips.{passed-within, back_written, never_short, never_headless, never_folded}
use Rattle.promises.proofs.Answered.{ok_of}
use Rattle.promises.proofs.round.write_back.Goals as goal

pub write_read-requires : goal.write_read-requires
write_read-requires c =
    passed-within c.args.setting.year c.args.s.now c.args.table.now c.args.elements.now c.args.bytes.now _ _ _
    _ (c.unfold.ensures.answers, (c.unfold.ensures.numbers, (c.unfold.ensures.pool, c.unfold.ensures.texts))) _ c.in-Ok.is _ c.head_of.ensures _ c.in-Ok-head_of.is

pub returns : goal.returns
returns c =
    λ u e room. let back = back_written c.args.setting.year c.args.s.now c.args.table.now c.args.elements.now
    c.args.bytes.now _ _ _ _ (c.unfold.ensures.answers, (c.unfold.ensures.numbers, (c.unfold.ensures.pool, c.unfold.ensures.texts))) _ c.in-Ok.is _
    c.head_of.ensures _ c.in-Ok-head_of.is c.bytes.ensures c.args.out.now _ _ room
    (c.write_read.ensures.answers, c.write_read.ensures.sheet) u e in (
      c.is_ok.ensures.value ∙ ok_of _ (λ q no. never_short c.args.setting.year c.args.s.now c.args.table.now c.args.elements.now
          c.args.bytes.now _ _ _ _ (c.unfold.ensures.answers, (c.unfold.ensures.numbers, (c.unfold.ensures.pool, c.unfold.ensures.texts))) _ c.in-Ok.is _
          c.head_of.ensures _ c.in-Ok-head_of.is c.bytes.ensures c.args.out.now _ _ room
          (c.write_read.ensures.answers, c.write_read.ensures.sheet) q no),
      back.0,
      back.1,
    )

pub returns-in_default-head_of : goal.returns-in_default-head_of
returns-in_default-head_of c =
    λ u e room. absurd (never_headless c.args.setting.year c.args.s.now c.args.table.now c.args.elements.now
    c.args.bytes.now _ _ _ _ (c.unfold.ensures.answers, (c.unfold.ensures.numbers, (c.unfold.ensures.pool, c.unfold.ensures.texts))) _ c.in-Ok.is _
    c.head_of.ensures _ c.in_default-head_of.is)

pub returns-in_default : goal.returns-in_default
returns-in_default c =
    λ u e room. absurd (never_folded c.args.setting.year c.args.s.now c.args.table.now c.args.elements.now
    c.args.bytes.now _ _ _ _ (c.unfold.ensures.answers, (c.unfold.ensures.numbers, (c.unfold.ensures.pool, c.unfold.ensures.texts))) u e _ c.in_default.is)
