-- The header that is read is that of the record at the cursor's place: with it each callee's contract speaks of that record.
use native.Mathlib.Omega.{arith}
use mathlib.Core.Path.{refl, ap}
use Rattle.fields.specs.Headers.{header_of}
use Rattle.layout.specs.Reading.Records.{Header}
use Rattle.reading_fill.proofs.Laws.Records.{record_header, record_metric, counted, record_moved, record_wrote, items_kept, header-room}
use Rattle.reading_fill.proofs.filler.Filler.fill_record.Goals as goal

pub header_at-h-requires : goal.header_at-h-requires
header_at-h-requires c =
    (record_header c.args.xs.now c.args.c c.requires.1 _ _ _ _ c.requires.0).0

pub overflow_add-past : goal.overflow_add-past
overflow_add-past c =
    omega (arith, record_header c.args.xs.now c.args.c c.requires.1 _ _ _ _ c.requires.0)

pub record_metric-d-requires : goal.record_metric-d-requires
record_metric-d-requires c =
    rw c.header_at-h.ensures (record_metric c.args.xs.now c.args.c c.requires.1 _ _ _ _ c.requires.0)

pub record_items-e-requires : goal.record_items-e-requires
record_items-e-requires c =
    let parts = rw c.header_at-h.ensures at c.record_metric-d.ensures in
    rw c.header_at-h.ensures (items_kept c.args.xs.now c.args.c c.requires.1 _ _ c.requires.0 _ parts.wrote _ parts.is)

pub overflow_sub-n : goal.overflow_sub-n
overflow_sub-n c =
    let parts = rw c.header_at-h.ensures at c.record_metric-d.ensures in
    let items = rw c.header_at-h.ensures at c.record_items-e.ensures in
    omega (arith, (counted c.args.xs.now c.args.c c.requires.1 _ _ parts.is items.is).0)

pub put_record-requires : goal.put_record-requires
put_record-requires c =
    let parts = rw c.header_at-h.ensures at c.record_metric-d.ensures in
    let items = rw c.header_at-h.ensures at c.record_items-e.ensures in
    header-room c.args.xs.now c.args.c c.requires.1 _ _ c.requires.0 _ parts.wrote _ _ items.wrote

pub overflow_add-result : goal.overflow_add-result
unfolding header_of
overflow_add-result c =
    omega (arith, record_header c.args.xs.now c.args.c c.requires.1 _ _ _ _ c.requires.0, ap (λ (k : Header). k.total) c.header_at-h.ensures)

pub returns : goal.returns
returns c =
    let parts = rw c.header_at-h.ensures at c.record_metric-d.ensures in
    let items = rw c.header_at-h.ensures at c.record_items-e.ensures in
    let row = rw c.header_at-h.ensures at c.put_record.ensures in
    record { is = record_moved c.args.xs.now c.args.c c.requires.1 _ _ parts.is items.is _ c.header_at-h.ensures; wrote = record_wrote c.args.xs.now c.args.c c.requires.1 _ _ parts.is items.is _ _ _ _ parts.wrote items.wrote row refl refl (record { numbers = refl; elements = refl; bytes = refl }) }
