-- Pieces one after another: two moves of a cursor are one, and the room of both is that of each.
use mathlib.Core.List.{List, []}
use mathlib.Core.Path.{◌≡◌, refl}
use Prim.Native.Nat.{ℕ, ◌+◌}
use lib.ListN.{length-append}
use native.Mathlib.Nat.{add_assoc, add-zero}
use native.Mathlib.Omega.{arith}
use Rattle.fields.specs.Cursors.{moved, Room}
use Rattle.fields.specs.declared.cursors.Cursor.{Cursor}
use Rattle.layout.specs.Sheet.{Table}
use Rattle.layout.specs.Writing.Tables.{table, join}

pub moved_twice : (c : Cursor) (k m : ℕ) (a b : Table) → moved (moved c k a) m b ≡ moved c (k + m) (join a b)
moved_twice c k m a b = simp (length-append, add_assoc)

pub moved_none : (c : Cursor) → moved c 0 (table [] [] []) ≡ c
moved_none c = simp add-zero

module _ (c : Cursor) (k m : ℕ) (a b : Table) (xl tl el bl : ℕ) (r : Room c (k + m) (join a b) xl tl el bl) where
  pub room-first : Room c k a xl tl el bl
  room-first = omega (arith, r, length-append a.numbers b.numbers, length-append a.elements b.elements, length-append a.bytes b.bytes)

  pub room-second : Room (moved c k a) m b xl tl el bl
  room-second = omega (arith, r, length-append a.numbers b.numbers, length-append a.elements b.elements, length-append a.bytes b.bytes)
