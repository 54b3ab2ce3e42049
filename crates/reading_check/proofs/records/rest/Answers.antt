-- A metric's refusal is the answer (`rest-stop`), otherwise what the semantics answer after header and metric are counted (`rest_on`).
use native.Mathlib.Omega.{arith}
use mathlib.Core.Path.{◌≡◌, ap}
use Rattle.reading_check.specs.declared.tally.Tally.{Tally}
use Rattle.reading_check.proofs.Laws.Loop.{within-fine, within_more}
use Rattle.reading_check.proofs.Laws.Records.{metric-length, semantics-length, rest-stop, rest_on}
use Rattle.fields.specs.Headers.{header_of}
use borrow.Author.Rules.{rules}
use Rattle.std.specs.Prelude.{Err}
use Rattle.reading_check.proofs.records.rest.Goals as goal

pub and-requires : goal.and-requires
unfolding header_of
and-requires c =
    let n = metric-length c.args.xs.now (header_of c.args.h) c.requires.1 in
    let w = within-fine _ _ c.metric.result _ c.in_ok-m.was c.metric.ensures.within in
    omega (arith, w, n, c.requires)

pub semantics-requires : goal.semantics-requires
unfolding header_of
semantics-requires c =
    let n = metric-length c.args.xs.now (header_of c.args.h) c.requires.1 in
    let s = semantics-length c.args.xs.now (header_of c.args.h) c.requires.1 in
    let w = within-fine _ _ c.metric.result _ c.in_ok-m.was c.metric.ensures.within in
    rw c.and.ensures (omega (arith, w, n, s, c.requires), omega (arith, w, n, s, c.requires), omega (arith, w, n, s, c.requires))

pub returns : goal.returns
unfolding header_of
returns c =
    let n = metric-length c.args.xs.now (header_of c.args.h) c.requires.1 in
    let s = semantics-length c.args.xs.now (header_of c.args.h) c.requires.1 in
    let w = within-fine _ _ c.metric.result _ c.in_ok-m.was c.metric.ensures.within in
    record {
      means = rest_on c.args.xs.now (header_of c.args.h) c.requires.1 c.args.year c.args.p c.first_count-count.result
          c.first_count-count.ensures c.metric.result (c.metric.ensures.means c.args.year) _
          c.in_ok-m.was c.and.result c.and.ensures _ c.semantics.ensures.means;
      within = within_more _ _ _ c.semantics.result (omega (arith, w, n, s, c.requires, ap (λ (t : Tally). t.used) c.and.ensures))
          c.semantics.ensures.within;
    }

pub returns-in_err-m : goal.returns-in_err-m
unfolding header_of
returns-in_err-m c =
    let e : c.from_residual.result ≡ Err c.in_err-m.field-0.0 = search rules in
    rw e
    (record {
      means = rest-stop c.args.xs.now (header_of c.args.h) c.requires.1 c.args.year c.args.p
          c.first_count-count.result c.first_count-count.ensures c.metric.result
          (c.metric.ensures.means c.args.year) _ c.in_err-m.was;
      within = tt;
    })
