use lib.ListN.{drop}
use mathlib.Core.Path.{◌≡◌, ap, sym, ◌∙◌}
use borrow.Author.Rules.{rules}
use native.Mathlib.Omega.{arith}
use Rattle.fields.specs.Headers.{header_of}
use Rattle.hop.proofs.Laws.Checks.{header-within}
use Rattle.hop.proofs.Laws.Headers.{at_first, none_left, header_refused, header-hit, header_other}
use Rattle.layout.specs.Answers.Enums.{hopped_of}
use Rattle.layout.specs.Reading.Records.{Header, header_in}
use Rattle.std.specs.Prelude.{Err}
use Rattle.hop.proofs.sheets.hop_on.Goals as goal

pub loop-seen-init : goal.loop-seen-init
loop-seen-init c =
    (omega arith, omega arith, at_first c.args.code c.args.s.now c.at-count.result 452 _ c.at-count.ensures)

pub returns-in_err-check_header : goal.returns-in_err-check_header
returns-in_err-check_header c =
    let e : c.from_residual.result ≡ Err c.in_err-check_header.field-0.0 = search rules in
    rw e (header_refused c.args.code c.args.s.now _ c.loop-seen.seen c.loop-seen.at (omega arith) c.check_header.result
    c.check_header.ensures _ c.in_err-check_header.was
    ∙ ap hopped_of c.loop-seen.invariant.2)

pub header_at-h-requires : goal.header_at-h-requires
header_at-h-requires c =
    let fits = header-within c.args.s.now c.loop-seen.at _ c.check_header.ensures c.in_ok-check_header.was in
    omega (arith, fits.0, fits.1)

pub returns-then-h-code : goal.returns-then-h-code
unfolding header_of
returns-then-h-code c =
    header-hit c.args.code c.args.s.now _ c.loop-seen.seen c.loop-seen.at (omega arith) c.check_header.result
    c.check_header.ensures c.in_ok-check_header.was (header_of c.header_at-h.result) c.header_at-h.ensures
    c.if-h-code.true
    ∙ ap hopped_of c.loop-seen.invariant.2

pub loop-seen-preserved : goal.loop-seen-preserved
unfolding header_of
loop-seen-preserved c =
    let fits = header-within c.args.s.now c.loop-seen.at c.check_header.result c.check_header.ensures c.in_ok-check_header.was in
    let total-is : c.header_at-h.result.total ≡ (header_in (drop c.loop-seen.at c.args.s.now)).total =
    ap (λ (h : Header). h.total) c.header_at-h.ensures in (
      omega arith,
      omega (arith, fits.1, total-is),
      sym (header_other c.args.code c.args.s.now _ c.loop-seen.seen c.loop-seen.at (omega arith) c.check_header.result
          c.check_header.ensures c.in_ok-check_header.was (header_of c.header_at-h.result)
          c.header_at-h.ensures c.if-h-code.false)
          ∙ c.loop-seen.invariant.2,
    )

pub returns : goal.returns
returns c =
    none_left c.args.code c.args.s.now _ c.loop-seen.seen c.loop-seen.at (omega arith) ∙ ap hopped_of c.loop-seen.invariant.2
