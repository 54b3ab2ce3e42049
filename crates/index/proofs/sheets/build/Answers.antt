-- The sheet is accepted, so its records follow one another from header to header; or its refusal is the answer.
use mathlib.Core.List.{List}
use mathlib.Core.Path.{◌≡◌, ap, sym}
use Prim.Native.Nat.{ℕ}
use borrow.Author.Rules.{rules}
use Rattle.std.specs.Prelude.{Err}
use native.Mathlib.Omega.{arith}
use Rattle.index.proofs.Laws.Hopped.{Read, read}
use Rattle.index.proofs.Laws.Told.{told_refused, told_given}
use Rattle.layout.specs.Answers.Calls.{reading}
use Rattle.layout.specs.Index.Blocks.{encode_index}
use Rattle.layout.specs.Index.Selecting.{entries_of, index_by}
use Rattle.layout.specs.Reading.Sheets.{start}
use Rattle.layout.specs.Sheet.{Sheet}
use Rattle.layout.specs.declared.BlockKind.TheVariants.{New}
use Rattle.laws.proofs.Base.Numbers.{all-bytes}
use Rattle.reading.proofs.Laws.Seen.{seen, refused-is}
use Rattle.index.proofs.sheets.build.Goals as goal

pub build_in-requires : goal.build_in-requires
build_in-requires c =
    let sheet : List ℕ =
    c.args.s.now in
    let accepted : (count : ℕ) × Read c.args.setting.year sheet count = (
      _,
      read _ sheet _ (all-bytes sheet (λ i. omega (arith, c.type_inv.s i)))
          (seen _ _ _ _ c.check.ensures c.in_ok-sizes.was),
    ) in
    (accepted.1.hops, accepted.1.few)

pub returns : goal.returns
unfolding index_by
returns c =
    let sheet : List ℕ =
    c.args.s.now in
    let accepted : (count : ℕ) × Read c.args.setting.year sheet count = (
      _,
      read _ sheet _ (all-bytes sheet (λ i. omega (arith, c.type_inv.s i)))
          (seen _ _ _ c.check.result c.check.ensures c.in_ok-sizes.was),
    ) in
    let known = accepted.1 in
    let both = told_given (reading c.args.setting.year sheet) (λ (t : Sheet). encode_index New (entries_of start t.records)) c.args.index.now
    known.sheet known.is _ (ap (encode_index New) (sym known.entries)) _ _ (c.build_in.ensures.answers, c.build_in.ensures.written) in
    record { answers = both.0; written = both.1 }

pub returns-in_err-sizes : goal.returns-in_err-sizes
unfolding index_by
returns-in_err-sizes c =
    let e : c.from_residual.result ≡ Err c.in_err-sizes.field-0.0 = search rules in
    let both = told_refused (reading c.args.setting.year c.args.s.now) (λ (t : Sheet). encode_index New (entries_of start t.records))
    c.args.index.now _ (refused-is _ _ _ _ c.check.ensures c.in_err-sizes.was) in
    rw e record { answers = both.0; written = both.1 }
