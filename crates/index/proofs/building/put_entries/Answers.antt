use mathlib.Core.Path.{refl, ap, sym, ◌∙◌}
use Prim.Native.Nat.{◌+◌, ◌-◌}
use native.Mathlib.Omega.{arith}
use Rattle.index.specs.Hopped.{hopped}
use Rattle.index.proofs.Laws.Hopped.{hop-within, hop_on, hopped-none, after-all}
use Rattle.index.proofs.Laws.Built.{entries_start, entry_fits, entry_on}
use Rattle.index.proofs.Laws.Writing.{done}
use Rattle.layout.specs.Bytes.{flat}
use Rattle.layout.specs.Index.Blocks.{encode_entry}
use Rattle.layout.specs.declared.BlockKind.TheVariants.{New}
use Rattle.index.proofs.building.put_entries.Goals as goal

pub loop-init : goal.loop-init
loop-init c =
    entries_start c.args.s.now c.args.n _ c.args.first c.args.out.now c.args.w (omega arith) c.requires.0 (omega (arith, c.requires.1))

pub entry_of-requires : goal.entry_of-requires
entry_of-requires c =
    (hop-within c.args.s.now (c.args.n - c.loop.counter) _ c.loop.at (omega arith) refl c.loop.invariant.0).0

pub next-at-requires : goal.next-at-requires
next-at-requires c =
    hop-within c.args.s.now (c.args.n - c.loop.counter) _ c.loop.at (omega arith) refl c.loop.invariant.0

pub loop-preserved : goal.loop-preserved
loop-preserved c =
    let hop = hop_on c.args.s.now (c.args.n - c.loop.counter) (c.args.n - (c.loop.counter + 1)) c.loop.at (omega arith) (omega arith) c.loop.invariant.0
    c.entry_of.result c.entry_of.ensures c.next-at.result c.next-at.ensures in (
      hop.hops,
      hop.place ∙ c.loop.invariant.1,
      entry_on _ _ _ _ _ (hopped (c.args.n - c.loop.counter) c.loop.at c.args.s.now) c.loop.invariant.2 c.entry_of.result _ hop.rest _
          c.put_entry.ensures,
    )

pub returns : goal.returns
returns c =
    let s = c.args.s.now in
    let left = c.args.n - c.loop.counter in
    record {
      next = sym (after-all s left c.loop.at (omega arith)) ∙ c.loop.invariant.1;
      written = done _ _ _ _ _ _ c.loop.invariant.2 (ap (flat (encode_entry New)) (hopped-none s left c.loop.at (omega arith)));
    }

pub put_entry-requires : goal.put_entry-requires
put_entry-requires c =
    let hop = hop_on c.args.s.now (c.args.n - c.loop.counter) _ c.loop.at (omega arith) refl c.loop.invariant.0 c.entry_of.result c.entry_of.ensures
    _ refl in
    entry_fits _ _ _ _ _ (hopped (c.args.n - c.loop.counter) c.loop.at c.args.s.now) c.loop.invariant.2 c.entry_of.result _ hop.rest
