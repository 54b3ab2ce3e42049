use mathlib.Core.Path.{◌≡◌, sym, ◌∙◌, ap}
use lib.ListN.{drop}
use lib.Seq.{drop-drop}
use native.Mathlib.Omega.{arith}
use Rattle.index.proofs.Laws.Checking.{going_start, going_stop, going_turn, going_done, good_within, good_few}
use Rattle.layout.specs.Bytes.{number}
use Rattle.layout.specs.Index.Reading.{file_kind, good_block}
use Rattle.laws.proofs.Base.Numbers.{all-bytes}
use Rattle.index.proofs.files.check.Goals as goal

pub loop-at-init : goal.loop-at-init
loop-at-init c = (omega arith, omega arith, omega arith, going_start c.args.index.now)

pub returns-then-not-good_block : goal.returns-then-not-good_block
returns-then-not-good_block c =
    let judged : let index = c.args.index.now in c.good_block.result ≡ good_block (file_kind index) c.loop-at.blocks (drop c.loop-at.at index) =
    c.good_block.ensures
    ∙ ap (λ kind. good_block kind c.loop-at.blocks (drop c.loop-at.at c.args.index.now)) c.file_kind-kind.ensures in
    c.refused.ensures ∙ going_stop c.args.index.now c.loop-at.blocks c.loop-at.entries c.loop-at.at c.loop-at.invariant.3 c.loop-at.invariant.0 (omega arith)
    (sym c.if-not-good_block.true ∙ judged)

pub loop-at-preserved : goal.loop-at-preserved
loop-at-preserved c =
    let index = c.args.index.now in
    let judged : c.good_block.result ≡ good_block (file_kind index) c.loop-at.blocks (drop c.loop-at.at index) =
    c.good_block.ensures ∙ ap (λ kind. good_block kind c.loop-at.blocks (drop c.loop-at.at index)) c.file_kind-kind.ensures in
    let count-is : c.at.result ≡ number 2 (drop 2 (drop c.loop-at.at index)) = c.at.ensures ∙ sym (ap (number 2) (drop-drop 2 c.loop-at.at index)) in (
      omega arith,
      omega (arith, good_within c.file_kind-kind.result c.loop-at.blocks c.loop-at.at c.args.index.now _ c.good_block.ensures c.if-not-good_block.false),
      omega (arith, good_few c.file_kind-kind.result c.loop-at.blocks c.loop-at.at c.args.index.now _ c.good_block.ensures c.if-not-good_block.false c.at.result c.at.ensures),
      going_turn index c.loop-at.blocks c.loop-at.entries c.loop-at.at c.loop-at.invariant.3 c.loop-at.invariant.0 (omega arith)
          (sym c.if-not-good_block.false ∙ judged) c.at.result count-is,
    )

pub returns : goal.returns
returns c =
    let index = c.args.index.now in
    going_done index c.loop-at.blocks c.loop-at.entries c.loop-at.at c.loop-at.invariant.3 c.loop-at.invariant.0
    (all-bytes index (λ i. omega (arith, c.type_inv.index i))) (omega arith)
