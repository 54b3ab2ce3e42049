-- One hop, from header to header (`hop_on`).
use mathlib.Core.Path.{refl}
use Prim.Native.Nat.{◌-◌}
use native.Mathlib.Omega.{arith}
use Rattle.index.proofs.Laws.Hopped.{hopped-length, hop-within, hop_on}
use Rattle.index.proofs.hops.SheetEntriesEntries.next.Goals as goal

pub entry_of-e-requires : goal.entry_of-e-requires
entry_of-e-requires c =
    let e = c.args.self.now in
    (hop-within e.s.now e.count (e.count - 1) e.at (omega (arith, c.requires.1, hopped-length e.count e.at e.s.now)) refl c.requires.0.0).0

pub next-self-requires : goal.next-self-requires
next-self-requires c =
    let e = c.args.self.now in
    hop-within e.s.now e.count (e.count - 1) e.at (omega (arith, c.requires.1, hopped-length e.count e.at e.s.now)) refl c.requires.0.0

pub overflow_sub-self : goal.overflow_sub-self
overflow_sub-self c =
    let e = c.args.self.now in
    omega (arith, c.requires.1, hopped-length e.count e.at e.s.now)

pub returns : goal.returns
returns c =
    let e = c.args.self.now in
    let hop = hop_on e.s.now e.count (e.count - 1) e.at (omega (arith, c.requires.1, hopped-length e.count e.at e.s.now)) refl c.requires.0.0
    _ c.entry_of-e.ensures _ c.next-self.ensures in
    record { first = hop.rest; stands = (hop.hops, omega (arith, c.requires.0.1)) }
