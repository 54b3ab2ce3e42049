-- The stores stand next to each other, so they are one write of a row's numbers; a store keeps the length that the next one needs.
use native.Mathlib.Omega.{arith}
use native.Mathlib.Numerals.{unary_clauses}
use lib.ListN.{length-set}
use mathlib.Core.Path.{refl}
use Rattle.fields.specs.Headers.{header_of}
use Rattle.reading_fill.specs.Records.{row_of}
use Rattle.reading_fill.proofs.rows.put_record.Goals as goal

pub bounds-out-w-2 : goal.bounds-out-w-2
bounds-out-w-2 c = simp length-set (omega arith)

pub bounds-out-w-3 : goal.bounds-out-w-3
bounds-out-w-3 c = simp length-set (omega arith)

pub bounds-out-w-4 : goal.bounds-out-w-4
bounds-out-w-4 c = simp length-set (omega arith)

pub bounds-out-w-5 : goal.bounds-out-w-5
bounds-out-w-5 c = simp length-set (omega arith)

pub bounds-out-w-6 : goal.bounds-out-w-6
bounds-out-w-6 c = simp length-set (omega arith)

pub bounds-out-w-7 : goal.bounds-out-w-7
bounds-out-w-7 c = simp length-set (omega arith)

pub bounds-out-w-8 : goal.bounds-out-w-8
bounds-out-w-8 c = simp length-set (omega arith)

pub bounds-out-w-9 : goal.bounds-out-w-9
bounds-out-w-9 c = simp length-set (omega arith)

pub shape_of-out : goal.shape_of-out
shape_of-out c = simp length-set

pub returns : goal.returns
unfolding header_of row_of
returns c = simp (unary_clauses, c.number.ensures, c.mark_of.ensures) refl
