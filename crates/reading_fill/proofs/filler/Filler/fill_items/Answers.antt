use mathlib.Core.Path.{ap}
use native.Mathlib.Omega.{arith}
use Rattle.fields.specs.declared.cursors.Cursor.{Cursor}
use Rattle.layout.specs.Reading.Items.{item_in, item_size}
use Rattle.layout.specs.Writing.Tables.{flatten_item}
use Rattle.reading_fill.proofs.Laws.Loops.{end-start, end-room, end-turn, end_done}
use Rattle.reading_fill.proofs.Laws.Items.{item_grows, item_room}
use Rattle.reading_fill.proofs.filler.Filler.fill_items.Goals as goal

pub loop-acc-init : goal.loop-acc-init
loop-acc-init c = end-start item_in item_size flatten_item c.args.xs.now c.args.c c.args.self.now item_grows

pub fill_item-acc-requires : goal.fill_item-acc-requires
fill_item-acc-requires c =
    item_room _ _ _ _ _ _
    (end-room item_in item_size flatten_item c.args.xs.now c.args.c c.args.self.now item_grows _ _ c.loop-acc.invariant (omega arith) _ _ c.requires)

pub loop-acc-smaller : goal.loop-acc-smaller
loop-acc-smaller c =
    omega (arith, ap (λ (z : Cursor). z.place) c.fill_item-acc.ensures.is)

pub loop-acc-preserved : goal.loop-acc-preserved
loop-acc-preserved c =
    end-turn item_in item_size flatten_item c.args.xs.now c.args.c c.args.self.now item_grows _ _ c.loop-acc.invariant (omega arith) _ _
    c.fill_item-acc.ensures.is c.fill_item-acc.ensures.wrote

pub returns : goal.returns
returns c =
    let both = end_done item_in item_size flatten_item c.args.xs.now c.args.c c.args.self.now item_grows _ _ c.loop-acc.invariant (omega arith) in
    record { is = both.0; wrote = both.1 }
