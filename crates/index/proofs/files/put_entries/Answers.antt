use mathlib.Core.Path.{refl, ap, sym}
use lib.ListN.{length}
use native.Mathlib.Omega.{arith}
use Rattle.index.proofs.Laws.Each.{all_rows, each_done, each_on}
use Rattle.index.proofs.Laws.Writing.{start, done}
use Rattle.layout.specs.Index.Selecting.{entry_row}
use Rattle.index.proofs.files.put_entries.Goals as goal

pub loop-i-init : goal.loop-i-init
loop-i-init g c =
    let long = all_rows (g.E.Entries.left c.args.listed) c.count-count.result (sym c.count-count.ensures.0) in (
      c.requires.0,
      omega (arith, c.count-count.ensures.0),
      start c.args.entries.now _ _ 0 _ refl refl (omega (arith, long, c.requires.1, c.count-count.ensures.0)),
    )

pub loop-i-preserved : goal.loop-i-preserved
loop-i-preserved g c =
    let i = c.loop-i.invariant in (
      c.next.ensures.stands,
      omega (arith, i.1, ap length c.next.ensures.first),
      each_on entry_row _ _ _ _ _ c.loop-i.i _ i.2 _ _ c.next.ensures.first _ _ c.put_entry.ensures (omega arith),
    )

pub returns : goal.returns
returns g c =
    done _ _ _ _ _ _ c.loop-i.invariant.2
    (each_done entry_row c.loop-i.i (g.E.Entries.left c.loop-i.rest) (omega (arith, c.loop-i.invariant.1)))
