-- The two stores stand next to each other, so they are one write of two numbers; the first keeps the length that the second needs.
use native.Mathlib.Omega.{arith}
use native.Mathlib.Numerals.{unary_clauses}
use lib.ListN.{length-set}
use mathlib.Core.Path.{refl}
use Rattle.reading_fill.proofs.rows.put_part.Goals as goal

pub bounds-out-w-2 : goal.bounds-out-w-2
bounds-out-w-2 c = simp length-set (omega arith)

pub returns : goal.returns
returns c = simp unary_clauses refl
