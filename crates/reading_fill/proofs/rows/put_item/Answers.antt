-- The four stores stand next to each other, so they are one write of four numbers; a store keeps the length that the next one needs.
use native.Mathlib.Omega.{arith}
use native.Mathlib.Numerals.{unary_clauses}
use lib.ListN.{length-set}
use mathlib.Core.Path.{refl}
use Rattle.reading_fill.proofs.rows.put_item.Goals as goal

pub bounds-out-w-2 : goal.bounds-out-w-2
bounds-out-w-2 c = simp length-set (omega arith)

pub bounds-out-w-3 : goal.bounds-out-w-3
bounds-out-w-3 c = simp length-set (omega arith)

pub bounds-out-w-4 : goal.bounds-out-w-4
bounds-out-w-4 c = simp length-set (omega arith)

pub returns : goal.returns
returns c = simp unary_clauses refl
