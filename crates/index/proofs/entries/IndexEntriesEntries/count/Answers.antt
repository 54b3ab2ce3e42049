-- As many are left as the field says (`at_length`).
use mathlib.Core.Path.{sym}
use native.Mathlib.Omega.{arith}
use Rattle.index.proofs.Laws.Places.{at_length}
use Rattle.index.proofs.entries.IndexEntriesEntries.count.Goals as goal

pub returns : goal.returns
returns c =
    let e = c.args.self.now in
    (sym (at_length e.kind e.index.now e.from e.count), omega (arith, c.requires.1))
