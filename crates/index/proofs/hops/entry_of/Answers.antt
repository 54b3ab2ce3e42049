-- What the header says.
use mathlib.Core.Path.{ap}
use Rattle.fields.specs.Headers.{header_of}
use Rattle.layout.specs.Reading.Records.{Header}
use Rattle.layout.specs.Shared.Reference.{localisation}
use Rattle.index.proofs.hops.entry_of.Goals as goal

pub returns : goal.returns
unfolding header_of
returns c =
    ap (λ (h : Header). record { code = h.code; place = c.args.at; localisation = localisation h.reference }) c.header_at-h.ensures
