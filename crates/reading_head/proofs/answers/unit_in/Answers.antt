-- A sheet that is read has its passport's rest (`read-long`), and its head is what stands in the bytes (`read_head`): its unit is answered.
use native.Mathlib.Omega.{arith}
use Rattle.reading_head.proofs.Laws.Read.{read-long, read_head}
use Rattle.fields.proofs.Laws.Lists.{part_length}
use Rattle.reading_head.proofs.answers.unit_in.Goals as goal

pub part-requires : goal.part-requires
part-requires c = let a = read-long _ c.requires in omega (arith, a)

pub unit_bytes-b-requires : goal.unit_bytes-b-requires
unit_bytes-b-requires c =
    let a = read-long _ c.requires in
    rw c.part.ensures (omega (arith, part_length c.args.s.now 96 304 (omega (arith, a))))

pub returns : goal.returns
returns c =
    λ t e. rw (read_head c.args.s.now t e, c.unit_of.ensures, c.unit_bytes-b.ensures, c.part.ensures)
