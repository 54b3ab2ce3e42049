-- Three numbers are set, one after another.
use mathlib.Core.Path.{refl}
use lib.ListN.{length-set}
use native.Mathlib.Omega.{arith}
use native.Mathlib.Numerals.{unary_clauses}
use Rattle.index.proofs.hits.put_row.Goals as goal

pub bounds-out-w-2 : goal.bounds-out-w-2
bounds-out-w-2 c = simp length-set (omega arith)

pub bounds-out-w-3 : goal.bounds-out-w-3
bounds-out-w-3 c = simp length-set (omega arith)

pub returns : goal.returns
returns c = simp unary_clauses refl
