-- Three numbers, by the kind (`old-read`, `new_read`); the kind's size says that they are there.
use Rattle.index.proofs.Laws.Places.{new_read}
use Rattle.index.proofs.entries.entry_at.Goals as goal

pub returns-in-New : goal.returns-in-New
returns-in-New c =
    rw c.in-New.is
    (new_read c.args.index.now c.args.p _ _ _ c.at-in-New.ensures c.at-in-New-2.ensures c.at-in-New-3.ensures)
