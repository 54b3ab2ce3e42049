-- The bits are a NaN's exactly if they lie above an infinity's without the sign (`nan_bits_above`), which is the comparison made.
use mathlib.Core.Path.{sym}
use lib.Ieee.{binary64}
use lib.Ieee.Bits.{nan_bits_above}
use Rattle.meanings.proofs.corners.not_number.Goals as goal

pub returns : goal.returns
returns c = sym (nan_bits_above binary64 c.args.bits)
