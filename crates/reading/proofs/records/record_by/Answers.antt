-- What the code makes of the header it has taken apart is `record_by` of it.
use mathlib.Core.Path.{ap}
use Rattle.fields.specs.Headers.{header_of}
use Rattle.reading.specs.Found.{record_by}
use Rattle.reading.proofs.records.record_by.Goals as goal

pub returns : goal.returns
unfolding header_of
returns c =
    rw (c.number.ensures, c.items_of.ensures, c.mark_of.ensures, c.first_count.ensures)
    (ap (λ h. record_by c.args.place c.args.count h) c.header_at-h.ensures)
