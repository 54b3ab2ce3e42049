-- The number of an integer item, by its value.
use Rattle.std.specs.Prelude.{ℕ, ◌*◌, eqb, leb, ℤ, pos, ◌-ℤ◌, not, cond, ◌≡◌, refl, Result, Ok, Err}
use Rattle.layout.specs.Answers.Enums.{refusal}
use Rattle.layout.specs.Answers.Units.{signed}
use Rattle.layout.specs.Fields.Item as Field
use Rattle.layout.specs.Refusals.{SEMANTIC}
use Rattle.layout.specs.declared.SemanticValue.TheVariants.{Number}
use Rattle.layout.specs.declared.Refusal.{Refusal}
use Rattle.layout.specs.declared.SemanticValue.{SemanticValue}

-- a signed number by the weight of its top bit: at 1, 2 and 4 bytes it is `layout`'s
abbrev pub signed_by : ℕ → ℕ → ℤ
signed_by half n = cond (leb half n) (pos n -ℤ pos (2 * half)) (pos n)

widths : (n : ℕ) → (signed_by 128 n ≡ signed 1 n) × (signed_by 32768 n ≡ signed 2 n) × (signed_by 2147483648 n ≡ signed 4 n)
widths n = (refl, refl, refl)

abbrev pub integer_by : ℤ → ℕ → Result SemanticValue Refusal
integer_by whole scale =
    cond (not (eqb scale 0x80))
    (Ok (Number (record { whole = whole; power = signed 1 scale })))
    (Err (refusal SEMANTIC (Field.scale).place 0))
