-- The four carried bytes are within the sheet, and are those that the list asks (contract of `part`); the checks on them are a list of their own.
use mathlib.Core.Path.{◌≡◌}
use native.Mathlib.Omega.{arith}
use Rattle.fields.proofs.Laws.Chain.{checked_both, next_fine}
use Rattle.fields.proofs.Laws.Lists.{part_length}
use Rattle.fields.specs.Checks.{checked}
use Rattle.layout.specs.Bytes.{bytes_in}
use Rattle.layout.specs.Fields.Descriptor
use Rattle.layout.specs.Reading.Sheets.{descriptor_checks, reserved_checks}
use Rattle.layout.specs.Shared.Carried.{carried_checks}
use borrow.Author.Rules.{rules}
use Rattle.reading_head.proofs.check.check_descriptor.Goals as goal

pub carried_checks-requires : goal.carried_checks-requires
carried_checks-requires c =
    rw c.part.ensures (omega (arith, part_length c.args.s.now 444 4 (omega arith)))

pub returns-in_err-carried_checks : goal.returns-in_err-carried_checks
unfolding descriptor_checks
returns-in_err-carried_checks c =
    let carried = carried_checks (bytes_in Descriptor.carried c.args.s.now) in
    let e : c.carried_checks.result ≡ checked c.args.year 0 carried = rw c.part.ensures at c.carried_checks.ensures in
    rw (checked_both c.args.year 0 carried (reserved_checks c.args.s.now)) (search (rules, e))

pub returns : goal.returns
unfolding descriptor_checks reserved_checks
returns c =
    let carried = carried_checks (bytes_in Descriptor.carried c.args.s.now) in
    let e : c.carried_checks.result ≡ checked c.args.year 0 carried = rw c.part.ensures at c.carried_checks.ensures in
    let d = rw (c.all_zero.ensures, c.part-2.ensures) at c.demand.ensures in
    rw (checked_both c.args.year 0 carried (reserved_checks c.args.s.now), next_fine _) (search (rules, e, d))
