-- What an item asks for has room, and what is written is its row and its value, by the kind that its type has.
use mathlib.Core.Path.{refl}
use Rattle.fields.specs.Kinds.{kind_by}
use Rattle.reading_fill.proofs.Laws.Items.{item-value, item_asks, item-moved, item-wrote}
use Rattle.reading_fill.proofs.filler.Filler.fill_item.Goals as goal

pub value_size-n-requires : goal.value_size-n-requires
value_size-n-requires c = (
  c.kind_at-k.ensures,
  item-value c.args.xs.now c.args.c (kind_by c.kind_at-k.result)
      c.kind_at-k.ensures _ _ _ _ c.requires,
)

pub put_bytes-requires : goal.put_bytes-requires
put_bytes-requires c =
    let a = item_asks c.args.xs.now c.args.c _ c.kind_at-k.ensures _ _ _ _ _
    c.at-code.ensures c.at-t.ensures c.at-scale.ensures
    c.length_bytes-p.ensures.0 c.value_size-n.ensures.0 c.requires.place _ _ _ _ c.requires in
    (a.0, a.2)

pub put_item-requires : goal.put_item-requires
put_item-requires c =
    let a = item_asks c.args.xs.now c.args.c _ c.kind_at-k.ensures _ _ _ _ _ c.at-code.ensures
    c.at-t.ensures c.at-scale.ensures c.length_bytes-p.ensures.0
    c.value_size-n.ensures.0 c.requires.place _ _ _ _ c.requires in
    a.1

pub returns : goal.returns
returns c =
    record {
      is = item-moved c.args.xs.now c.args.c _ c.kind_at-k.ensures _ _ _ _ _ c.at-code.ensures
          c.at-t.ensures c.at-scale.ensures c.length_bytes-p.ensures.0
          c.value_size-n.ensures.0 c.requires.place;
      wrote = item-wrote c.args.xs.now c.args.c _ c.kind_at-k.ensures _ _ _ _ _ c.at-code.ensures
          c.at-t.ensures c.at-scale.ensures c.length_bytes-p.ensures.0
          c.value_size-n.ensures.0 c.requires.place c.args.self.now _ c.put_item.ensures refl c.put_bytes.ensures
          (record { numbers = refl; elements = refl; bytes = refl });
    }
