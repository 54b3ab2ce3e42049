-- The sum is that of what was written before it.
use native.Mathlib.Omega.{arith}
use Rattle.index.specs.Hopped.{hopped}
use Rattle.index.proofs.Laws.Built.{block_put}
use Rattle.index.proofs.Laws.Hopped.{hopped-length}
use Rattle.index.proofs.building.put_block.Goals as goal

pub returns : goal.returns
returns c =
    let n = c.args.n in
    let s = c.args.s.now in
    record {
      next = c.put_unsummed-after.ensures.next;
      written = block_put c.args.number (hopped n c.args.first s) c.args.out.now c.args.w
          (omega (arith, hopped-length n c.args.first s, c.requires.1)) c.requires.3 _ _ c.sum_of-sum.result
          c.put_unsummed-after.ensures.written c.sum_of-sum.ensures.0 c.put.ensures;
    }
