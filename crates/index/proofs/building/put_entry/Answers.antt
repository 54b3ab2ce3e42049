-- Three numbers, one after another.
use Rattle.index.proofs.Laws.Built.{entry_put}
use Rattle.index.proofs.building.put_entry.Goals as goal

pub returns : goal.returns
returns c =
    entry_put c.args.e c.args.out.now c.args.w _ _ _ c.put.ensures c.put-2.ensures
    c.put-3.ensures
