use mathlib.Core.Path.{refl, ap}
use lib.ListN.{length}
use native.Mathlib.Omega.{arith}
use Rattle.index.proofs.Laws.Each.{each_done, count_turn, each_fits, each_on}
use Rattle.index.proofs.Laws.Writing.{done}
use Rattle.layout.specs.Index.Selecting.{pick_entry}
use Rattle.index.proofs.hits.put_hits.Goals as goal

pub put_hit-w-requires : goal.put_hit-w-requires
put_hit-w-requires g c =
    each_fits (pick_entry c.args.code) _ _ _ _ _ c.loop-i.i _ c.loop-i.invariant.2 _ _ c.next.ensures.first

pub loop-i-preserved : goal.loop-i-preserved
loop-i-preserved g c =
    let i = c.loop-i.invariant in
    let turn = count_turn (pick_entry c.args.code) c.loop-i.i _ _ _ c.next.ensures.first _ refl in (
      c.next.ensures.stands,
      omega (arith, i.1, ap length c.next.ensures.first),
      each_on (pick_entry c.args.code) _ _ _ _ _ c.loop-i.i _ i.2 _ _ c.next.ensures.first _ _ c.put_hit-w.ensures.1 c.put_hit-w.ensures.0,
      omega (arith, i.3, c.put_hit-w.ensures.0, turn),
    )

pub returns : goal.returns
returns g c =
    let none = each_done (pick_entry c.args.code) c.loop-i.i (g.E.Entries.left c.loop-i.rest) (omega (arith, c.loop-i.invariant.1)) in
    record {
      counted = omega (arith, ap length none, c.loop-i.invariant.3);
      written = done _ _ _ _ _ _ c.loop-i.invariant.2 none;
    }
