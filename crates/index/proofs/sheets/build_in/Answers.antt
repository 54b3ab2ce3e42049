-- There is room for the blocks, or there is not.
use mathlib.Core.List.{List}
use mathlib.Core.Path.{◌≡◌, ap, ◌∙◌}
use Prim.Native.Nat.{ℕ, ◌+◌, ◌*◌, ◌/◌}
use lib.ListN.{length}
use lib.Seq.{sets}
use native.Mathlib.Omega.{arith}
use Rattle.index.specs.Hopped.{hopped}
use Rattle.index.proofs.Laws.Built.{index_long, index_is}
use Rattle.index.proofs.Laws.Hopped.{hopped-length}
use Rattle.index.proofs.Laws.Told.{told_short, told_fits}
use Rattle.layout.specs.Index.Blocks.{encode_index}
use Rattle.layout.specs.declared.BlockKind.TheVariants.{New}
use Rattle.index.proofs.sheets.build_in.Goals as goal

pub returns-then-index-n : goal.returns-then-index-n
returns-then-index-n c =
    let whole : List ℕ =
    encode_index New (hopped c.args.count 452 c.args.s.now) in
    let long : 512 * ((c.args.count + 55) / 56) ≡ length whole =
    index_long _ c.args.count (hopped-length c.args.count 452 c.args.s.now) in
    let both = told_short c.args.index.now whole _ long (omega arith) _ c.refused.ensures in
    record { answers = both.0; written = both.1 }

pub returns : goal.returns
returns c =
    let whole : List ℕ =
    encode_index New (hopped c.args.count 452 c.args.s.now) in
    let long : 512 * ((c.args.count + 55) / 56) ≡ length whole =
    index_long _ c.args.count (hopped-length c.args.count 452 c.args.s.now) in
    let both = told_fits c.args.index.now whole _ long (omega arith) _
    (c.put_blocks.ensures
    ∙ ap (λ l. sets c.args.index.now 0 l) (index_is _ c.args.count (hopped-length c.args.count 452 c.args.s.now))) in
    record { answers = both.0; written = both.1 }
