-- Dividing what is left answers as the definition's product does: too few for the parts (`room-short`), or the items decide (`room-is`).
use Rattle.writing_check.proofs.Laws.Rows.{room-short, room-is}
use Rattle.writing_check.proofs.rows.room.Goals as goal

pub returns-then-free-parts : goal.returns-then-free-parts
returns-then-free-parts c =
    room-short c.args.parts c.args.items c.args.left c.requires c.if-free-parts.true

pub returns : goal.returns
returns c =
    room-is c.args.parts c.args.items c.args.left c.requires c.if-free-parts.false
