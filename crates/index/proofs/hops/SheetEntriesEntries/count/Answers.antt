-- As many are left as the field says (`hopped-length`).
use mathlib.Core.Path.{sym}
use native.Mathlib.Omega.{arith}
use Rattle.index.proofs.Laws.Hopped.{hopped-length}
use Rattle.index.proofs.hops.SheetEntriesEntries.count.Goals as goal

pub returns : goal.returns
returns c =
    let e = c.args.self.now in
    (sym (hopped-length e.count e.at e.s.now), omega (arith, c.requires.1))
