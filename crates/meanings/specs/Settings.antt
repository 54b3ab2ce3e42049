-- What making a setting answers, case by case. (01, The refusals: "ASK: setting not one of nine")
use Rattle.std.specs.Prelude.{ℕ, ◌≡◌, refl}
use Rattle.layout.specs.Answers.Calls.{setting_of}
use Rattle.layout.specs.Refusals.{ASK, refusal_number}
use Rattle.layout.specs.Answers.Enums.{result_of}
use Rattle.meanings.specs.declared.setting.Setting.{Setting}
use Rattle.layout.specs.declared.Refusal.{Refusal}
use Rattle.std.specs.Prelude.{Result, Ok, Err}

-- the year of the setting made, or the refusal; a setting is its year (`nine` has one proof), so that this is all of the answer
abbrev pub year_in : Result Setting Refusal → Result ℕ Refusal
year_in (Ok s) = Ok s.year
year_in (Err r) = Err r

-- the answer, as a year
abbrev pub made : ℕ → Result ℕ Refusal
made year = result_of (λ y. y) (setting_of year)

cases : (made 1999 ≡ Ok 1999) × (made 2017 ≡ Ok 2017) × (made 2018 ≡ Err (record { reason = ASK; place = 0; year = 0 }))
    × (made 0 ≡ Err (record { reason = ASK; place = 0; year = 0 }))
    × (refusal_number ASK ≡ 16)
cases = (refl, refl, refl, refl, refl)
