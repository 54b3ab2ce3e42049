use native.Mathlib.Omega.{arith}
use Rattle.reading_fill.specs.Parts.{subobject_in, subobject_size}
use Rattle.layout.specs.Writing.Tables.{flatten_part}
use Rattle.reading_fill.proofs.Laws.Loops.{turns_start, turns_room, turns_turn, turns_done}
use Rattle.reading_fill.proofs.filler.Filler.fill_subobjects.Goals as goal

pub loop-init : goal.loop-init
loop-init c = turns_start (subobject_in c.args.s) (subobject_size c.args.s) flatten_part c.args.xs.now c.args.c c.args.self.now c.args.n

pub fill_subobject-acc-requires : goal.fill_subobject-acc-requires
fill_subobject-acc-requires c =
    turns_room (subobject_in c.args.s) (subobject_size c.args.s) flatten_part c.args.xs.now c.args.c c.args.self.now c.args.n _ _ _ c.loop.invariant
    (omega arith) _ c.requires

pub loop-preserved : goal.loop-preserved
loop-preserved c =
    turns_turn (subobject_in c.args.s) (subobject_size c.args.s) flatten_part c.args.xs.now c.args.c c.args.self.now c.args.n _ _ _ c.loop.invariant
    (omega arith) _ _ c.fill_subobject-acc.ensures.is c.fill_subobject-acc.ensures.wrote

pub returns : goal.returns
returns c =
    let both = turns_done (subobject_in c.args.s) (subobject_size c.args.s) flatten_part c.args.xs.now c.args.c c.args.self.now c.args.n _ _ _
    c.loop.invariant (omega arith) in
    record { is = both.0; wrote = both.1 }
