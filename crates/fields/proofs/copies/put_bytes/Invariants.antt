-- The loop keeps `Copying`: the bytes left, written onto out as it is now, give what all n give on out as it came; a turn copies one.
use Rattle.fields.proofs.Laws.Put.{Copying}
use Rattle.fields.proofs.copies.put_bytes.Given as goal

abbrev pub invariant-loop-i : goal.invariant-loop-i
invariant-loop-i l = Copying l.xs l.at l.n l.w l.initial.out l.i l.out
