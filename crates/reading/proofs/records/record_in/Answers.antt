-- A number past the count is refused (`past`); else hopping leads to the record (`found`), which cannot be refused in an accepted sheet (`never`).
use mathlib.Core.Path.{◌≡◌, ◌∙◌}
use native.Mathlib.Omega.{arith}
use Rattle.laws.proofs.Base.Numbers.{all-bytes}
use Rattle.reading.proofs.Laws.One.{one-of-one, past, hops, place-within, rest-within, found, never}
use Rattle.std.specs.Prelude.{Err}
use borrow.Author.Rules.{rules}
use Rattle.reading.proofs.records.record_in.Goals as goal

pub returns-then-count-number : goal.returns-then-count-number
returns-then-count-number c =
    rw c.refused.ensures (past c.args.year c.args.s.now c.args.number c.args.count c.requires c.if-count-number.true)

pub place_of-at-requires : goal.place_of-at-requires
place_of-at-requires c =
    hops c.args.year c.args.s.now c.args.number c.args.count c.requires
    (all-bytes c.args.s.now (λ i. omega (arith, c.type_inv.s i))) (omega arith)

pub rest-xs-requires : goal.rest-xs-requires
rest-xs-requires c =
    place-within c.args.year c.args.s.now c.args.number c.args.count c.requires
    (all-bytes c.args.s.now (λ i. omega (arith, c.type_inv.s i))) (omega arith) _ c.place_of-at.ensures

pub records-requires : goal.records-requires
records-requires c =
    omega (
      arith,
      (rest-within c.args.year c.args.s.now c.args.number c.args.count c.requires
          (all-bytes c.args.s.now (λ i. omega (arith, c.type_inv.s i))) (omega arith) _
          c.place_of-at.ensures _ c.rest-xs.ensures).0,
    )

pub record_by-requires : goal.record_by-requires
record_by-requires c =
    (rest-within c.args.year c.args.s.now c.args.number c.args.count c.requires
    (all-bytes c.args.s.now (λ i. omega (arith, c.type_inv.s i))) (omega arith) _
    c.place_of-at.ensures _ c.rest-xs.ensures).1

pub returns : goal.returns
returns c =
    found c.args.year c.args.s.now c.args.number c.args.count c.requires
    (all-bytes c.args.s.now (λ i. omega (arith, c.type_inv.s i))) (omega arith) _
    c.place_of-at.ensures _ c.rest-xs.ensures c.records.result
    (c.records.ensures.means ∙ one-of-one _ _ _) _ c.in_ok-t.was _ c.record_by.ensures

pub returns-in_err-t : goal.returns-in_err-t
returns-in_err-t c =
    let e : c.from_residual.result ≡ Err c.in_err-t.field-0.0 = search rules in
    rw e (never c.args.year c.args.s.now c.args.number c.args.count c.requires
    (all-bytes c.args.s.now (λ i. omega (arith, c.type_inv.s i))) (omega arith) _
    c.place_of-at.ensures _ c.rest-xs.ensures c.records.result
    (c.records.ensures.means ∙ one-of-one _ _ _) _ c.in_err-t.was)
