-- The first part's refusal is the answer (`pair-stop`), otherwise the subobjects' answer with its counts added (`pair_then`); the sums fit.
use Rattle.layout.specs.Reading.Parts.{part_walk, subobject_walk}
use Rattle.layout.specs.Walk.{times}
use Rattle.layout.specs.Writing.Tables.{flatten_part, joined}
use native.Mathlib.Omega.{arith}
use mathlib.Core.Path.{◌≡◌, sym, ◌∙◌}
use Rattle.fields.proofs.Laws.Lists.{rest_is}
use Rattle.reading_check.proofs.Laws.Loop.{within-fine, rest-within}
use Rattle.reading_check.proofs.Laws.Wholes.{pair-stop, pair_then}
use lib.ListN.{length-drop}
use Rattle.reading_check.proofs.parts.pair.Goals as goal
use Rattle.fields.specs.References.{reference_by}
use borrow.Author.Rules.{rules}
use Rattle.std.specs.Prelude.{Ok, Err}

pub slice_bounds-subobjects-count : goal.slice_bounds-subobjects-count
slice_bounds-subobjects-count c =
    let w = within-fine _ _ c.part.result _ c.in_ok-first.was c.part.ensures.within in
    omega (arith, w)

pub slice_bounds-subobjects-start : goal.slice_bounds-subobjects-start
slice_bounds-subobjects-start c =
    let w = within-fine _ _ c.part.result _ c.in_ok-first.was c.part.ensures.within in
    omega (arith, w)

pub overflow_add-p : goal.overflow_add-p
overflow_add-p c =
    let w = within-fine _ _ c.part.result _ c.in_ok-first.was c.part.ensures.within in
    omega (arith, w)

pub subobjects-requires : goal.subobjects-requires
subobjects-requires c =
    let w = within-fine _ _ c.part.result _ c.in_ok-first.was c.part.ensures.within in
    rw (rest_is, length-drop) (omega (arith, w))

pub and-requires : goal.and-requires
and-requires c =
    let w = within-fine _ _ c.part.result _ c.in_ok-first.was c.part.ensures.within in
    let v = rest-within _ _ c.args.xs.now c.subobjects.result c.subobjects.ensures.within _
    c.in_ok-more.was in
    omega (arith, w, v)

pub returns : goal.returns
returns c =
    let w = within-fine _ _ c.part.result _ c.in_ok-first.was c.part.ensures.within in
    let v = rest-within _ _ c.args.xs.now c.subobjects.result c.subobjects.ensures.within _
    c.in_ok-more.was in
    record {
      means = λ y. rw c.and.ensures
          (pair_then y flatten_part (joined flatten_part)
          (part_walk (reference_by c.args.reference) c.args.count)
          (times c.args.n
          (subobject_walk (reference_by c.args.reference) c.args.marked))
          c.args.p c.args.xs.now c.part.result (c.part.ensures.means y) _ c.in_ok-first.was
          (Ok _) (sym c.in_ok-more.was ∙ c.subobjects.ensures.means y));
      within = rw c.and.ensures (omega (arith, w, v));
    }

pub returns-in_err-more : goal.returns-in_err-more
returns-in_err-more c =
    let e : c.from_residual-in_err-more.result ≡ Err c.in_err-more.field-0.0 = search rules in
    rw e
    (record {
      means = λ y. pair_then y flatten_part (joined flatten_part)
          (part_walk (reference_by c.args.reference) c.args.count)
          (times c.args.n
          (subobject_walk (reference_by c.args.reference) c.args.marked))
          c.args.p c.args.xs.now c.part.result (c.part.ensures.means y) _ c.in_ok-first.was
          (Err _) (sym c.in_err-more.was ∙ c.subobjects.ensures.means y);
      within = tt;
    })

pub returns-in_err-first : goal.returns-in_err-first
returns-in_err-first c =
    let e : c.from_residual.result ≡ Err c.in_err-first.field-0.0 = search rules in
    rw e
    (record {
      means = λ y. pair-stop y flatten_part (joined flatten_part)
          (part_walk (reference_by c.args.reference) c.args.count)
          (times c.args.n
          (subobject_walk (reference_by c.args.reference) c.args.marked))
          c.args.p c.args.xs.now c.part.result (c.part.ensures.means y) _ c.in_err-first.was;
      within = tt;
    })
