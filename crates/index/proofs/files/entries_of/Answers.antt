-- The index is good, so its entries stand at their places (`accepted`); or its bad block is the answer.
use mathlib.Core.Path.{◌≡◌, sym, ◌∙◌}
use borrow.Author.Rules.{rules}
use Rattle.index.proofs.Laws.Told.{accepted, by_refusal}
use Rattle.layout.specs.Index.Reading.{file_kind, entries_in}
use Rattle.laws.proofs.Base.Numbers.{all-bytes}
use Rattle.std.specs.Prelude.{Err}
use native.Mathlib.Omega.{arith}
use Rattle.index.proofs.files.entries_of.Goals as goal

pub returns : goal.returns
returns c =
    let index = c.args.index.now in
    record {
      good = accepted index (all-bytes index (λ i. omega (arith, c.type_inv.index i))) _ c.check.ensures _ c.in_ok-sizes.was _ c.file_kind.ensures;
      bad = tt;
    }

pub returns-in_err-sizes : goal.returns-in_err-sizes
returns-in_err-sizes c =
    let e : c.from_residual.result ≡ Err c.in_err-sizes.field-0.0 = search rules in
    let index = c.args.index.now in
    rw e record { good = tt; bad = by_refusal (file_kind index) (entries_in index) _ (sym c.in_err-sizes.was ∙ c.check.ensures) }
