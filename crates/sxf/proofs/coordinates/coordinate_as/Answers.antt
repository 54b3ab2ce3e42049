-- The bits of the element's number are defined since it is made of stored ones (`element_defined`).
use Rattle.std.proofs.Common.{sym, subst}
use Rattle.sxf.proofs.Laws.Numbers.{element_defined}
use Rattle.sxf.specs.Doubles.{DefinedNumber}
use Rattle.sxf.proofs.coordinates.coordinate_as.Goals as goal

pub number_bits-requires : goal.number_bits-requires
number_bits-requires c = subst DefinedNumber (sym c.number_of-n.ensures) (element_defined _)
