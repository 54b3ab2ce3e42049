-- Three numbers for each are enough; else the hits are counted.
use mathlib.Core.Path.{sym}
use native.Mathlib.Omega.{arith}
use Rattle.index.proofs.Laws.Each.{room_for_all}
use Rattle.index.proofs.hits.have_room.Goals as goal

pub returns-then-count-room : goal.returns-then-count-room
returns-then-count-room g c =
    room_for_all c.args.code (g.E.Entries.left c.args.entries) c.count.result c.args.room (sym c.count.ensures.0) (omega arith)
