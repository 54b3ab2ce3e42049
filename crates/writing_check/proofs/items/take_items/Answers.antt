-- Items follow each other in four numbers each, and each call is the taker of an item.
use Rattle.std.proofs.Common.{rules}
use Rattle.layout.specs.Layout.Fine.{FineItem}
use Rattle.layout.specs.Layout.Sizes.{item_bytes}
use Rattle.layout.specs.Layout.Uses.{item_years}
use Rattle.layout.specs.Walk.{up_to}
use Rattle.layout.specs.Writing.Items.{take_item}
use Rattle.layout.specs.Writing.Tables.{flatten_item}
use Rattle.laws.proofs.Writing.Items.{item_takes, item-numbers}
use Rattle.writing_check.proofs.Laws.Moves.{at_any}
use Rattle.writing_check.proofs.Laws.Pieces.{may_take, took_is}
use Rattle.writing_check.specs.Places.{lists, with_elements, AtBy, Any}
use Rattle.writing_check.proofs.items.take_items.Goals as goal

pub take_all-requires : goal.take_all-requires
take_all-requires c =
    let y = up_to c.args.year in
    may_take y 4 take_item flatten_item FineItem item_years (item_takes y) item_bytes item-numbers Any (lists c.args.t.now) (λ n a r e h. tt) _ _
    (λ q m f. search rules) c.args.n c.args.p c.requires.0 c.requires.1 (λ q h room. search rules)

pub returns : goal.returns
returns c = λ es.
    let y = up_to c.args.year in
    let at : AtBy Any (with_elements es c.args.t.now) c.args.p = at_any c.requires.0 in
    took_is y 4 take_item flatten_item FineItem item_years (item_takes y) item_bytes item-numbers Any (with_elements es c.args.t.now) (λ n a r e h. tt)
    (λ q. Unit {0}) _ (λ q m f. search rules) c.args.n c.args.p c.take_all.result at c.requires.1 c.take_all.ensures
