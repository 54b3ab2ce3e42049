-- Each public call has one right answer for each input: two results that meet its contract are equal. The contracts are those of src/
-- as the check reads them, so that a contract that says less is refused here.
use Rattle.meanings.proofs.coordinates.coordinate_of.Kinds as coordinate-of-kinds
use Rattle.meanings.proofs.coordinates.coordinate_of.Reads as coordinate-of
use Rattle.meanings.proofs.coordinates.measure_of.Kinds as measure-of-kinds
use Rattle.meanings.proofs.coordinates.measure_of.Reads as measure-of
use Rattle.meanings.proofs.coordinates.UnknownUnit.byte.Kinds as unknown-byte-kinds
use Rattle.meanings.proofs.coordinates.UnknownUnit.byte.Reads as unknown-byte
use Rattle.meanings.proofs.coordinates.Quantity.unit.Kinds as quantity-unit-kinds
use Rattle.meanings.proofs.coordinates.Quantity.unit.Reads as quantity-unit
use Rattle.meanings.proofs.coordinates.Quantity.number.Kinds as quantity-number-kinds
use Rattle.meanings.proofs.coordinates.Quantity.number.Reads as quantity-number
use Rattle.meanings.proofs.corners.not_number.Kinds as not-number-kinds
use Rattle.meanings.proofs.corners.not_number.Reads as not-number
use Rattle.meanings.proofs.corners.corners_of.Kinds as corners-of-kinds
use Rattle.meanings.proofs.corners.corners_of.Reads as corners-of
use Rattle.meanings.proofs.elements.element_of.Kinds as element-of-kinds
use Rattle.meanings.proofs.elements.element_of.Reads as element-of
use Rattle.meanings.proofs.setting.Setting.new.Kinds as setting-new-kinds
use Rattle.meanings.proofs.setting.Setting.new.Reads as setting-new
use Rattle.meanings.proofs.setting.SettingTryFromU32.try_from.Kinds as setting-try-from-kinds
use Rattle.meanings.proofs.setting.SettingTryFromU32.try_from.Reads as setting-try-from
use Rattle.meanings.proofs.setting.Setting.year.Kinds as setting-year-kinds
use Rattle.meanings.proofs.setting.Setting.year.Reads as setting-year
use Rattle.meanings.proofs.units.unit_of.Kinds as unit-of-kinds
use Rattle.meanings.proofs.units.unit_of.Reads as unit-of
use Rattle.meanings.proofs.units.height_unit_of.Kinds as height-unit-of-kinds
use Rattle.meanings.proofs.units.height_unit_of.Reads as height-unit-of
use Rattle.meanings.proofs.units.number_of.Kinds as number-of-kinds
use Rattle.meanings.proofs.units.number_of.Reads as number-of
use Rattle.meanings.proofs.values.value_of.Kinds as value-of-kinds
use Rattle.meanings.proofs.values.value_of.Reads as value-of
use Rattle.meanings.proofs.visibility.visibility_of.Kinds as visibility-of-kinds
use Rattle.meanings.proofs.visibility.visibility_of.Reads as visibility-of
use Rattle.meanings.proofs.Laws.Settings.{same_made}
use borrow.Fn.Kinds.{ParamKind, ResultKind, Dens, Out, res_t, ended_of}
use contract.Lifetimes.{Lfts}
use denote.Triple.Clauses.{AtExit}
use mathlib.Core.List.{List}
use mathlib.Core.Path.{◌≡◌, sym, ◌∙◌}

-- of a function with parameters ps and the result r; e and f are what stands in the parameters as it returns
abbrev pub Once : {n : _} (ps : List (ParamKind n)) (r : ResultKind n) → Out n ps r → Type 0
Once {n} ps r Post = (κs : Lfts n) (a : Dens κs ps) (x y : (res_t r κs).Denot) (e f : AtExit (ended_of n ps r) κs) → Post κs a x e → Post κs a y f → x ≡ y

pub once_element-of : Once element-of-kinds.ps element-of-kinds.r element-of.Post
once_element-of κs a x y e f p q = p ∙ sym q

pub once_measure_of : Once measure-of-kinds.ps measure-of-kinds.r measure-of.Post
once_measure_of κs a x y e f p q = p ∙ sym q

pub once_coordinate_of : Once coordinate-of-kinds.ps coordinate-of-kinds.r coordinate-of.Post
once_coordinate_of κs a x y e f p q = p ∙ sym q

pub once_unknown-byte : Once unknown-byte-kinds.ps unknown-byte-kinds.r unknown-byte.Post
once_unknown-byte κs a x y e f p q = p ∙ sym q

-- of each unit
pub once_quantity_unit : (U : _) (l : _) (c : _) (g : _) (d : _)
    → Once (quantity-unit-kinds.ps U l c) (quantity-unit-kinds.r U l c) (quantity-unit.Post U l c g d)
once_quantity_unit U l c g d κs a x y e f p q = p ∙ sym q

pub once_quantity_number : (U : _) (l : _) (c : _) (g : _) (d : _)
    → Once (quantity-number-kinds.ps U l c) (quantity-number-kinds.r U l c) (quantity-number.Post U l c g d)
once_quantity_number U l c g d κs a x y e f p q = p ∙ sym q

pub once_not_number : Once not-number-kinds.ps not-number-kinds.r not-number.Post
once_not_number κs a x y e f p q = p ∙ sym q

pub once_corners-of : Once corners-of-kinds.ps corners-of-kinds.r corners-of.Post
once_corners-of κs a x y e f p q = p ∙ sym q

pub once_setting_new : Once setting-new-kinds.ps setting-new-kinds.r setting-new.Post
once_setting_new κs a x y e f p q = same_made x y (p ∙ sym q)

pub once_setting_try_from : Once setting-try-from-kinds.ps setting-try-from-kinds.r setting-try-from.Post
once_setting_try_from κs a x y e f p q = same_made x y (p ∙ sym q)

pub once_setting-year : Once setting-year-kinds.ps setting-year-kinds.r setting-year.Post
once_setting-year κs a x y e f p q = p ∙ sym q

pub once_unit-of : Once unit-of-kinds.ps unit-of-kinds.r unit-of.Post
once_unit-of κs a x y e f p q = p ∙ sym q

pub once_height-unit-of : Once height-unit-of-kinds.ps height-unit-of-kinds.r height-unit-of.Post
once_height-unit-of κs a x y e f p q = p ∙ sym q

pub once_number-of : Once number-of-kinds.ps number-of-kinds.r number-of.Post
once_number-of κs a x y e f p q = p ∙ sym q

pub once_value-of : Once value-of-kinds.ps value-of-kinds.r value-of.Post
once_value-of κs a x y e f p q = p ∙ sym q

pub once_visibility-of : Once visibility-of-kinds.ps visibility-of-kinds.r visibility-of.Post
once_visibility-of κs a x y e f p q = p ∙ sym q
