use native.Mathlib.Omega.{arith}
use Prim.Native.Nat.{◌-◌}
use mathlib.Core.Path.{refl, ap, sym, ◌∙◌}
use Rattle.fields.specs.Headers.{header_of}
use Rattle.layout.specs.Reading.Records.{Header}
use Rattle.reading.proofs.Laws.Hop.{hop_start, hop-header, hop-turn, hop_done}
use Rattle.reading.proofs.records.place_of.Goals as goal

pub loop-init : goal.loop-init
loop-init c = hop_start _ _ _ _ (omega arith) c.requires

pub header_at-requires : goal.header_at-requires
header_at-requires c = hop-header _ _ c.args.s.now (omega arith) c.loop.invariant.0

pub overflow_add-at : goal.overflow_add-at
unfolding header_of
overflow_add-at c =
    let turn = hop-turn _ _ c.args.s.now _ (omega arith) c.loop.invariant.0 (ap (λ (h : Header). h.total) c.header_at.ensures) _ refl in
    omega (arith, turn.within)

pub loop-preserved : goal.loop-preserved
unfolding header_of
loop-preserved c =
    let turn = hop-turn _ _ c.args.s.now _ (omega arith) c.loop.invariant.0 (ap (λ (h : Header). h.total) c.header_at.ensures) _ (omega arith) in
    (turn.hops, turn.place ∙ c.loop.invariant.1)

pub returns : goal.returns
returns c = sym (hop_done (c.args.number - c.loop.counter) c.loop.at c.args.s.now (omega arith)) ∙ c.loop.invariant.1
