-- Byte 0x98 of page 1251 is the only one without a character, which is a law of the tables.
use native.Mathlib.Omega.{arith}
use mathlib.Core.Path.{sym}
use Rattle.laws.proofs.Codings.{only_one}
use Rattle.codings.proofs.characters.lacks.Goals as goal

pub returns : goal.returns
returns c = sym (only_one 1 _ (omega arith))
