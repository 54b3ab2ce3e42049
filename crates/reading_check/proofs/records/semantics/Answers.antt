-- Where the flag and the bytes left agree, the items' answer with front added (`semantics_on`), otherwise the refusal (`semantics_off`).
use native.Mathlib.Omega.{arith}
use mathlib.Core.Path.{◌≡◌, sym, ◌∙◌}
use Rattle.reading_check.proofs.Laws.Loop.{within-fine}
use Rattle.reading_check.proofs.Laws.Records.{semantics_on, semantics_off}
use Rattle.reading_check.proofs.records.semantics.Goals as goal
use borrow.Author.Rules.{rules}
use Rattle.std.specs.Prelude.{Ok, Err}

pub and-requires : goal.and-requires
and-requires c =
    let w = within-fine _ _ c.items.result _ c.in_ok-s.was c.items.ensures.within in
    omega (arith, w, c.requires)

pub returns : goal.returns
returns c =
    let w = within-fine _ _ c.items.result _ c.in_ok-s.was c.items.ensures.within in
    record {
      means = rw c.and.ensures
          (semantics_on c.args.year c.args.p c.args.xs.now c.args.flag c.agree.result c.args.front
          c.agree.ensures c.if-not-agree.false (Ok _)
          (sym c.in_ok-s.was ∙ c.items.ensures.means));
      within = rw c.and.ensures (omega (arith, w, c.requires));
    }

pub returns-in_err-s : goal.returns-in_err-s
returns-in_err-s c =
    let e : c.from_residual.result ≡ Err c.in_err-s.field-0.0 = search rules in
    rw e
    (record {
      means = semantics_on c.args.year c.args.p c.args.xs.now c.args.flag c.agree.result c.args.front
          c.agree.ensures c.if-not-agree.false (Err _)
          (sym c.in_err-s.was ∙ c.items.ensures.means);
      within = tt;
    })

pub returns-then-not-agree : goal.returns-then-not-agree
returns-then-not-agree c =
    rw c.refused.ensures (record {
      means = semantics_off c.args.year c.args.p c.args.xs.now c.args.flag c.agree.result c.args.front
          c.agree.ensures c.if-not-agree.true;
      within = tt;
    })
