-- Enough bytes are left, and the checks on the total length follow (`header-total`).
use lib.ListN.{length, drop, length-drop}
use mathlib.Core.Path.{sym}
use Prim.Native.Nat.{◌-◌}
use native.Mathlib.Omega.{arith}
use borrow.Author.Rules.{rules}
use Rattle.fields.specs.Headers.{header_of}
use Rattle.hop.proofs.Laws.Checks.{header-total}
use Rattle.layout.specs.Fields.Header as Field
use Prim.Native.Nat.{◌≤◌}
use Rattle.hop.proofs.headers.check_header.Goals as goal

pub returns : goal.returns
returns c =
    let s = c.args.s.now in
    let at = c.args.at in
    let enough : Field.size ≤ length s - at = search rules in
    λ y. header-total y at (drop at s) (omega (arith, length-drop at s, enough)) (length s - at) (sym (length-drop at s))
    (header_of c.header_at.result) c.header_at.ensures _ (c.total_checks.ensures y)
