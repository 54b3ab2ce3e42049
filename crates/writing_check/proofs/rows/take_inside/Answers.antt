-- First part, later parts and items follow each other; each starts where the one before ended (`Went`), and the first refusal is the answer.
use native.Mathlib.Omega.{arith}
use Rattle.std.proofs.Common.{rules}
use Rattle.writing_check.specs.Places.{lists}
use Rattle.writing_check.specs.Rows.{row_of}
use Rattle.writing_check.proofs.Laws.Moves.{at_any}
use Rattle.writing_check.proofs.Laws.Rows.{First, Later, first_went, first-stop, first_next, laters_went, laters-stop, laters-next, items_last}
use Rattle.writing_check.proofs.rows.take_inside.Goals as goal
use Rattle.writing_check.proofs.rows.take_inside.Goals.{In_ok-q, In_ok-s}

-- the first part, and the later ones, once they were taken
first : (c : In_ok-q) → First c.args.year (lists c.args.t.now) (row_of c.args.a.now) c.args.p c.in_ok-q.q
first c =
    first_went c.args.year (lists c.args.t.now) (row_of c.args.a.now) c.args.p c.requires.0 (omega (arith, c.requires.1, c.requires.2))
    c.take_first.result (c.take_first.ensures c.args.year) _ c.in_ok-q.was

later : (c : In_ok-s) → First c.args.year (lists c.args.t.now) (row_of c.args.a.now) c.args.p c.in_ok-q.q
    → Later c.args.year (lists c.args.t.now) (row_of c.args.a.now) c.args.p c.in_ok-q.q c.in_ok-s.s
later c f =
    let n = first_next c.args.year (lists c.args.t.now) (row_of c.args.a.now) c.args.p _ f in
    laters_went c.args.year (lists c.args.t.now) (row_of c.args.a.now) c.args.p _ f f.at (omega (arith, n, c.requires.1, c.requires.2))
    c.take_laters.result (c.take_laters.ensures c.args.year) _ c.in_ok-s.was

pub take_laters-requires : goal.take_laters-requires
take_laters-requires c =
    let f = first (goal.at.take_laters-requires c).In_ok-q in
    let n = first_next c.args.year (lists c.args.t.now) (row_of c.args.a.now) c.args.p _ f in
    (f.at, omega (arith, n, c.requires.1, c.requires.2))

pub take_items-requires : goal.take_items-requires
take_items-requires c =
    let f = first (goal.at.take_items-requires c).In_ok-q in
    let l = later (goal.at.take_items-requires c).In_ok-s f in
    let n = laters-next c.args.year (lists c.args.t.now) (row_of c.args.a.now) c.args.p _ f _ l c.requires.1 in
    (at_any l.at, omega (arith, n, c.requires.2))

pub returns : goal.returns
returns c =
    let f = first (goal.at.returns c).In_ok-q in
    items_last c.args.year (lists c.args.t.now) (row_of c.args.a.now) c.args.p _ f _ (later (goal.at.returns c).In_ok-s f) c.requires.1
    c.take_items.result (c.take_items.ensures c.args.t.now.elements.now)

pub returns-in_err-q : goal.returns-in_err-q
returns-in_err-q c =
    rw (← first-stop c.args.year (lists c.args.t.now) (row_of c.args.a.now) c.args.p c.requires.0 (omega (arith, c.requires.1, c.requires.2))
    c.take_first.result (c.take_first.ensures c.args.year) _ c.in_err-q.was) (search rules)

pub returns-in_err-s : goal.returns-in_err-s
returns-in_err-s c =
    let f = first (goal.at.returns-in_err-s c).In_ok-q in
    let n = first_next c.args.year (lists c.args.t.now) (row_of c.args.a.now) c.args.p _ f in
    rw (← laters-stop c.args.year (lists c.args.t.now) (row_of c.args.a.now) c.args.p _ f f.at (omega (arith, n, c.requires.1, c.requires.2))
    c.take_laters.result (c.take_laters.ensures c.args.year) _ c.in_err-s.was) (search rules)
