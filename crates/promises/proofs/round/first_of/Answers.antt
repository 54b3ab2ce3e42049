-- The part from 0 to n is the first n: n less 0 is n.
use native.Mathlib.Nat.{sub-zero}
use Rattle.promises.proofs.round.first_of.Goals as goal

pub returns : goal.returns
returns c = rw sub-zero
