-- Five pieces, one after another.
use Rattle.index.proofs.Laws.Built.{unsummed_put}
use Rattle.index.proofs.Laws.Hopped.{hopped-length}
use Rattle.index.proofs.building.put_unsummed.Goals as goal

pub returns : goal.returns
returns c =
    record {
      next = c.put_entries-after.ensures.next;
      written = unsummed_put c.args.number _ c.args.n (hopped-length c.args.n c.args.first c.args.s.now)
          c.args.out.now c.args.w _ _ _ _ _ c.requires.1 c.put.ensures c.put-2.ensures
          c.put_entries-after.ensures.written c.put_zeros.ensures c.put-3.ensures;
    }
