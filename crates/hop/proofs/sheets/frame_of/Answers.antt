-- As `first_with`, with the code that stands in the passport (contract of `numbers::at`).
use lib.ListN.{length}
use mathlib.Core.Path.{◌≡◌, ap, sym, ◌∙◌}
use Prim.Native.Nat.{◌≤◌}
use borrow.Author.Rules.{rules}
use native.Mathlib.Omega.{arith}
use Rattle.hop.proofs.Laws.Checks.{started}
use Rattle.hop.proofs.Laws.Headers.{start_on, start-refused}
use Rattle.layout.specs.Answers.Enums.{hopped_of}
use Rattle.layout.specs.Bytes.{number_in}
use Rattle.layout.specs.Fields.Passport
use Rattle.layout.specs.Fields.{limit}
use Rattle.layout.specs.Hop.{hop, frame}
use Rattle.layout.specs.Reading.Sheets.{start}
use Rattle.std.specs.Prelude.{Err}
use Rattle.hop.proofs.sheets.frame_of.Goals as goal

pub at-requires : goal.at-requires
at-requires c =
    let let_through : let s = c.args.s.now in (start ≤ length s) × (length s ≤ limit) =
    started c.args.s.now c.check_start.result c.check_start.ensures c.in_ok-check_start.was in
    omega (arith, let_through.0)

pub hop_on-requires : goal.hop_on-requires
hop_on-requires c = started c.args.s.now c.check_start.result c.check_start.ensures c.in_ok-check_start.was

pub returns : goal.returns
unfolding frame
returns c =
    let s = c.args.s.now in
    c.hop_on.ensures
    ∙ sym (ap hopped_of (start_on c.at.result s c.check_start.result c.check_start.ensures c.in_ok-check_start.was))
    ∙ ap (λ w. hopped_of (hop w s)) c.at.ensures

pub returns-in_err-check_start : goal.returns-in_err-check_start
unfolding frame
returns-in_err-check_start c =
    let e : c.from_residual.result ≡ Err c.in_err-check_start.field-0.0 = search rules in
    let s = c.args.s.now in
    rw e (start-refused (number_in Passport.frame s) s c.check_start.result c.check_start.ensures _ c.in_err-check_start.was)
