-- The sheet is accepted at the year, so the record in it is the one asked for; or its refusal is the answer.
use mathlib.Core.Path.{◌≡◌, refl}
use Rattle.reading.proofs.Laws.Seen.{seen}
use Rattle.reading.proofs.Laws.Asked.{accepted_at, found_right, found_refused}
use borrow.Author.Rules.{rules}
use Rattle.std.specs.Prelude.{Err}
use Rattle.reading.proofs.records.record_at.Goals as goal

pub record_in-requires : goal.record_in-requires
record_in-requires c =
    accepted_at c.args.setting.year c.args.s.now _ (seen _ _ _ _ c.check.ensures c.in_ok-sizes.was) _ c.year.ensures

pub returns : goal.returns
returns c =
    found_right c.args.setting.year c.args.s.now _ (seen _ _ _ _ c.check.ensures c.in_ok-sizes.was) _ _ _
    c.year.ensures c.record_in.ensures

pub returns-in_err-sizes : goal.returns-in_err-sizes
returns-in_err-sizes c =
    let e : c.from_residual.result ≡ Err c.in_err-sizes.field-0.0 = search rules in
    rw e (found_refused c.args.setting.year c.args.s.now _ _ c.check.ensures c.in_err-sizes.was c.args.number)
