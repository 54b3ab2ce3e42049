-- The array is the field of the sheet: it was filled from its start to its end (`field_copied`).
use mathlib.Core.Path.{◌∙◌}
use native.Mathlib.Omega.{arith}
use Rattle.layout.specs.Fields.Passport
use Rattle.promises.proofs.Trips.{field_copied}
use Rattle.promises.proofs.round.rest_of.Goals as goal

pub returns : goal.returns
returns c =
    c.put_bytes.ensures ∙ field_copied Passport.rest c.args.s.now (omega (arith, c.requires))
