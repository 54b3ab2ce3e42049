-- The part that is written holds n zeros (`part_wrote`), as many as it had bytes.
use mathlib.Core.Path.{ap, ◌∙◌}
use Prim.Native.Nat.{ℕ}
use native.Mathlib.Nat.{add-sub_cancel_left}
use lib.ListN.{length, take, drop, replicate, length-replicate}
use Rattle.fields.proofs.Laws.Lists.{part_length}
use Rattle.fields.proofs.Laws.Put.{part_wrote}
use borrow.Author.Rules.{rules}
use Rattle.fields.proofs.texts.put_zeros.Goals as goal

pub returns : goal.returns
returns c =
    let n = c.args.n in
    let w = c.args.w in
    let room = ap (λ (k : ℕ). length (take k (drop w c.args.out.now))) (add-sub_cancel_left w n) ∙ part_length c.args.out.now w n c.requires in
    let filled = c.fill.ensures.after (λ y e. search rules) ∙ ap (λ (k : ℕ). replicate {A = ℕ} k 0) room in
    part_wrote _ _ (replicate n 0) w _ n filled (add-sub_cancel_left w n) (length-replicate {A = ℕ} n 0) c.requires
