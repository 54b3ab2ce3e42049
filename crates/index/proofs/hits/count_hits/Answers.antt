use mathlib.Core.Path.{ap}
use lib.ListN.{length}
use native.Mathlib.Omega.{arith}
use Rattle.index.proofs.Laws.Each.{each_done, count_turn}
use Rattle.layout.specs.Index.Selecting.{pick_entry}
use Rattle.index.proofs.hits.count_hits.Goals as goal

pub loop-i-preserved : goal.loop-i-preserved
loop-i-preserved g c =
    let i = c.loop-i.invariant in
    let turn = count_turn (pick_entry c.args.code) c.loop-i.i (g.E.Entries.left c.loop-i.rest) c.next.result
    (g.E.Entries.left c.next.new.self) c.next.ensures.first c.hit_size-n.result c.hit_size-n.ensures.0 in (
      c.next.ensures.stands,
      omega (arith, i.1, ap length c.next.ensures.first),
      omega (arith, i.2, c.hit_size-n.ensures.1),
      omega (arith, i.3, turn),
    )

pub returns : goal.returns
returns g c =
    let none = each_done (pick_entry c.args.code) c.loop-i.i (g.E.Entries.left c.loop-i.rest) (omega (arith, c.loop-i.invariant.1)) in
    omega (arith, ap length none, c.loop-i.invariant.3)
