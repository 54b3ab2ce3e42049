-- The sum so far and the next n bytes make the sum before `to + n` (`total_on`), and at most 255 a byte it still fits.
use mathlib.Core.Path.{ap}
use native.Mathlib.Omega.{arith}
use lib.ListN.{length}
use Rattle.layout.specs.Bytes.{total}
use Rattle.fields.proofs.Laws.Lists.{part_length, total_on}
use Rattle.fields.proofs.sums.sum_on.Goals as goal

pub returns : goal.returns
returns c =
    let s = c.args.s.now in
    let at = c.args.so_far.to in
    let n = c.args.n in
    omega (arith, ap length c.part.ensures, ap total c.part.ensures, part_length s at n c.requires.1, total_on s at n)
