-- A whole number is rounded to a double that is a number (`whole-number`).
use Rattle.std.proofs.Common.{sym, subst}
use Rattle.sxf.proofs.Laws.Numbers.{whole-number}
use Rattle.sxf.specs.Doubles.{IsNumber}
use Rattle.sxf.proofs.coordinates.number_bits.Goals as goal

pub float_to_bits-result : goal.float_to_bits-result
float_to_bits-result c = subst IsNumber (sym c.nearest_i64_to_f64.ensures) (whole-number _)
