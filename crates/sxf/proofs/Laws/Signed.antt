-- A signed number that is handed on keeps its value.
use Rattle.std.proofs.Common.{◌≡◌, ◌^◌, ◌<◌, ℤ, sym, refl, ap, ◌∙◌, w64, to_z, of_z}
use Rattle.layout.specs.declared.Decimal.{Decimal}
use Rattle.layout.specs.declared.SemanticValue.TheVariants.{Number}
use Rattle.layout.specs.declared.SemanticValue.{SemanticValue}
use Rattle.layout.specs.Answers.Structs.{value_row}
use Rattle.layout.specs.declared.structs.SxfValue.{SxfValue}
use Rattle.meanings.proofs.Laws.Signed.{whole}
use Rattle.std.specs.Prelude.{Ok}
use lib.Signed.{mag}

abbrev row : ℤ → ℤ → SxfValue
row w p = record { number = 0; place = 0; year = 0; kind = 5; bits = 0; whole = w; power = p }

pub number-row : (v : SemanticValue) (d : Decimal) → v ≡ Number d → mag d.whole < 2 ^ 63 → mag d.power < 2 ^ 63
    → row (to_z w64 (of_z w64 d.whole)) (to_z w64 (of_z w64 d.power)) ≡ value_row (Ok v)
unfolding value_row
number-row v d e h k =
    ap (λ (z : ℤ). row z (to_z w64 (of_z w64 d.power))) (whole h refl) ∙ ap (λ (z : ℤ). row d.whole z) (whole k refl) ∙ sym (ap (λ (z : SemanticValue). value_row (Ok z)) e)
