use mathlib.Core.Path.{ap}
use native.Mathlib.Omega.{arith}
use Rattle.reading_fill.specs.Records.{record_in, record_size, RecordFits}
use Rattle.fields.specs.declared.cursors.Cursor.{Cursor}
use Rattle.layout.specs.Writing.Tables.{flatten_record}
use Rattle.reading_fill.proofs.Laws.Loops.{turns_start, turns_room, turns_turn, turns_done, each_start, each_turn, each_next}
use Rattle.reading_fill.proofs.filler.Filler.fill_records.Goals as goal

pub loop-init : goal.loop-init
loop-init c = (
  turns_start record_in record_size flatten_record c.args.xs.now c.args.c c.args.self.now c.args.n,
  each_start RecordFits record_size c.args.n c.args.xs.now c.args.c.place c.requires.1,
)

pub fill_record-acc-requires : goal.fill_record-acc-requires
fill_record-acc-requires c = (
  turns_room record_in record_size flatten_record c.args.xs.now c.args.c c.args.self.now c.args.n _ _ _ c.loop.invariant.0 (omega arith) _ c.requires.0,
  each_turn RecordFits record_size c.args.n c.args.xs.now _ _ (omega arith) c.loop.invariant.1,
)

pub loop-preserved : goal.loop-preserved
loop-preserved c = (
  turns_turn record_in record_size flatten_record c.args.xs.now c.args.c c.args.self.now c.args.n _ _ _ c.loop.invariant.0 (omega arith) _ _
      c.fill_record-acc.ensures.is c.fill_record-acc.ensures.wrote,
  each_next RecordFits record_size c.args.n c.args.xs.now _ _ (omega arith) c.loop.invariant.1 _
      (ap (λ (z : Cursor). z.place) c.fill_record-acc.ensures.is),
)

pub returns : goal.returns
returns c =
    let both = turns_done record_in record_size flatten_record c.args.xs.now c.args.c c.args.self.now c.args.n _ _ _ c.loop.invariant.0 (omega arith) in
    record { is = both.0; wrote = both.1 }
