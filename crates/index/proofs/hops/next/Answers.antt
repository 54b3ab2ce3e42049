-- The total length stands in the header.
use mathlib.Core.Path.{ap}
use Prim.Native.Nat.{◌+◌}
use Rattle.fields.specs.Headers.{header_of}
use Rattle.layout.specs.Reading.Records.{Header}
use Rattle.index.proofs.hops.next.Goals as goal

pub returns : goal.returns
unfolding header_of
returns c =
    ap (λ (h : Header). c.args.at + h.total) c.header_at.ensures
