-- Three ways out, each a law: too short for a head (`item-short`), refused by the checks on it (`item-stop`), or what its value answers (`item_on`).
use mathlib.Core.Path.{◌≡◌, ◌∙◌}
use native.Mathlib.Omega.{arith}
use lib.ListN.{drop}
use Rattle.reading_check.specs.Items.{shape_of}
use Rattle.layout.specs.Bytes.{number}
use Rattle.layout.specs.Reading.Items.{kind_in}
use Rattle.reading_check.proofs.Laws.Items.{item-short, item_on, item-stop, item_starts}
use borrow.Author.Rules.{rules}
use Rattle.std.specs.Prelude.{Err}
use Rattle.reading_check.proofs.items.item.Goals as goal

pub returns-then-xs-lt-SIZE : goal.returns-then-xs-lt-SIZE
returns-then-xs-lt-SIZE c =
    rw c.refused.ensures (record { means = item-short _ _ _ c.if-xs-lt-SIZE.true; within = tt })

pub value-requires : goal.value-requires
value-requires c =
    let e : c.shape_of-k.result ≡ shape_of (kind_in c.args.xs.now)
    (number 1 (drop 3 c.args.xs.now)) = c.shape_of-k.ensures.0 ∙ rw
    (c.at.ensures, c.at-2.ensures) in (
      omega arith,
      record {
        is = e;
        low = c.shape_of-k.ensures.1;
        at = c.shape_of-k.ensures.2;
        size = c.shape_of-k.ensures.3;
        closing = c.shape_of-k.ensures.4;
      },
      item_starts _ _ c.args.xs.now c.if-xs-lt-SIZE.false _ e c.shape_checks.result
          c.shape_checks.ensures c.in_ok-shape_checks.was,
    )

pub returns : goal.returns
returns c =
    let e : c.shape_of-k.result ≡ shape_of (kind_in c.args.xs.now)
    (number 1 (drop 3 c.args.xs.now)) = c.shape_of-k.ensures.0 ∙ rw
    (c.at.ensures, c.at-2.ensures) in
    record {
      means = item_on _ _ _ c.if-xs-lt-SIZE.false _ e c.shape_checks.result c.shape_checks.ensures
          c.in_ok-shape_checks.was _ (c.value.ensures.means _);
      within = c.value.ensures.within;
    }

pub returns-in_err-shape_checks : goal.returns-in_err-shape_checks
returns-in_err-shape_checks c =
    let e : c.shape_of-k.result ≡ shape_of (kind_in c.args.xs.now)
    (number 1 (drop 3 c.args.xs.now)) = c.shape_of-k.ensures.0 ∙ rw
    (c.at.ensures, c.at-2.ensures) in
    let end : c.from_residual.result ≡ Err c.in_err-shape_checks.field-0.0 = search rules in
    rw end
    (record {
      means = item-stop _ _ _ c.if-xs-lt-SIZE.false _ e c.shape_checks.result c.shape_checks.ensures _
          c.in_err-shape_checks.was;
      within = tt;
    })
