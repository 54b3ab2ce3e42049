-- A sheet that is read has its passport's rest (`read-long`), and its head is what stands in the bytes (`read_head`): its corners are answered.
use native.Mathlib.Omega.{arith}
use Rattle.reading_head.proofs.Laws.Read.{read-long, read_head}
use Rattle.fields.proofs.Laws.Lists.{part_length}
use Rattle.reading_head.proofs.answers.corners_in.Goals as goal

pub part-requires : goal.part-requires
part-requires c = let a = read-long _ c.requires in omega (arith, a)

pub rest_corners-bits-requires : goal.rest_corners-bits-requires
rest_corners-bits-requires c =
    let a = read-long _ c.requires in
    rw c.part.ensures (omega (arith, part_length c.args.s.now 96 304 (omega (arith, a))))

pub returns : goal.returns
returns c =
    λ t e. rw (
      read_head c.args.s.now t e,
      c.corners_of.ensures,
      c.rest_corners-bits.ensures,
      c.part.ensures,
    )
