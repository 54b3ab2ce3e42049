use mathlib.Core.List.{List}
use mathlib.Core.Path.{◌≡◌, refl, sym, subst}
use Prim.Native.Nat.{ℕ, ◌+◌, ◌-◌}
use native.Mathlib.Omega.{arith}
use Rattle.index.specs.Hopped.{hopped, place_after}
use Rattle.index.proofs.Laws.Built.{blocks-length, few-records, full-fits, full_on, last_fits, last_done, none_done}
use Rattle.index.proofs.Laws.Hopped.{hops_split}
use Rattle.index.proofs.Laws.Writing.{start}
use Rattle.layout.specs.Index.Blocks.{begun}
use Rattle.reading.specs.Found.{Hops}
use Rattle.index.proofs.building.put_blocks.Goals as goal

pub loop-left-init : goal.loop-left-init
loop-left-init c =
    let long = blocks-length (begun 56 c.args.count) 0 (hopped c.args.count 452 c.args.s.now) in (
      c.requires.0,
      omega (arith, few-records c.args.count c.requires.1),
      start c.args.out.now _ _ _ _ refl refl (omega (arith, long, c.requires.2)),
    )

pub put_block-at-requires : goal.put_block-at-requires
put_block-at-requires c =
    let sheet : List ℕ =
    c.args.s.now in
    let split : Hops 56 c.loop-left.at sheet × Hops (c.loop-left.left - 56) (place_after 56 c.loop-left.at sheet) sheet =
    let both : c.loop-left.left ≡ 56 + (c.loop-left.left - 56) = omega arith in
    hops_split 56 (c.loop-left.left - 56) c.loop-left.at sheet (subst (λ k. Hops k c.loop-left.at sheet) both c.loop-left.invariant.0) in (
      split.0,
      omega arith,
      omega (arith, c.loop-left.invariant.1),
      full-fits c.loop-left.number c.loop-left.left c.loop-left.at sheet _ _ _ c.loop-left.invariant.2 (omega arith),
    )

pub loop-left-preserved : goal.loop-left-preserved
loop-left-preserved c =
    let sheet : List ℕ =
    c.args.s.now in
    let split : Hops 56 c.loop-left.at sheet × Hops (c.loop-left.left - 56) (place_after 56 c.loop-left.at sheet) sheet =
    let both : c.loop-left.left ≡ 56 + (c.loop-left.left - 56) = omega arith in
    hops_split 56 (c.loop-left.left - 56) c.loop-left.at sheet (subst (λ k. Hops k c.loop-left.at sheet) both c.loop-left.invariant.0) in (
      subst (λ k. Hops (c.loop-left.left - 56) k sheet) (sym c.put_block-at.ensures.next) split.1,
      omega (arith, c.loop-left.invariant.1),
      full_on c.loop-left.number c.loop-left.left c.loop-left.at sheet _ _ _ c.loop-left.invariant.2 (omega arith) _
          c.put_block-at.ensures.written _ c.put_block-at.ensures.next,
    )

pub put_block-requires : goal.put_block-requires
put_block-requires c =
    let sheet : List ℕ =
    c.args.s.now in (
      c.loop-left.invariant.0,
      omega arith,
      omega (arith, c.loop-left.invariant.1),
      last_fits c.loop-left.number c.loop-left.left c.loop-left.at sheet _ _ _ c.loop-left.invariant.2 (omega arith) (omega arith),
    )

pub returns-then-left-gt0 : goal.returns-then-left-gt0
returns-then-left-gt0 c =
    let sheet : List ℕ =
    c.args.s.now in
    last_done c.loop-left.number c.loop-left.left c.loop-left.at sheet _ _ _ c.loop-left.invariant.2 (omega arith) (omega arith) _
    c.put_block.ensures.written

pub returns-else-left-gt0 : goal.returns-else-left-gt0
returns-else-left-gt0 c =
    let sheet : List ℕ =
    c.args.s.now in
    none_done c.loop-left.number c.loop-left.left c.loop-left.at sheet _ _ _ c.loop-left.invariant.2 (omega arith)
