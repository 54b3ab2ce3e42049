use native.Mathlib.Omega.{arith}
use Rattle.writing_emit.specs.Cursors.{table_of}
use Rattle.layout.specs.Layout.Encode.{encode_item}
use Rattle.layout.specs.Layout.Fine.{FineItem}
use Rattle.layout.specs.Writing.Tables.{flatten_item}
use Rattle.writing_emit.proofs.Laws.Moves.{left-start, left-next, left-turn, left_done}
use Rattle.writing_emit.proofs.Laws.Unique.{item_unique}
use Rattle.writing_emit.proofs.lists.Lists.emit_items.Goals as goal

pub loop-init : goal.loop-init
loop-init c =
    left-start flatten_item FineItem encode_item item_unique c.args.n c.args.c
    (table_of c.args.self.now) _ c.requires

pub emit_item-acc-requires : goal.emit_item-acc-requires
emit_item-acc-requires c =
    left-next flatten_item FineItem encode_item item_unique c.args.n c.args.c
    (table_of c.args.self.now) _ _ _ _ c.loop.invariant (omega arith)

pub loop-preserved : goal.loop-preserved
loop-preserved c =
    left-turn flatten_item FineItem encode_item item_unique c.args.n c.args.c
    (table_of c.args.self.now) _ _ _ _ c.loop.invariant (omega arith) _ _ c.emit_item-acc.ensures

pub returns : goal.returns
returns c =
    left_done flatten_item FineItem encode_item item_unique c.args.n c.args.c
    (table_of c.args.self.now) _ _ _ _ c.loop.invariant (omega arith)
