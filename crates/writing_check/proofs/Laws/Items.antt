-- The ways out of an item, over plain variables.
use mathlib.Core.Bool.{Bool}
use mathlib.Core.List.{List}
use mathlib.Core.Path.{◌≡◌, refl, sym, ap, ◌∙◌}
use Prim.Native.Nat.{ℕ, ◌+◌, ◌-◌, ◌≤◌, ◌<◌}
use borrow.Author.Tests.{leb-true, ltb-true, eqb-true}
use lib.ListN.{length, take, drop, length-drop}
use lib.Seq.{length-take-le}
use native.Mathlib.Nat.{add-zero}
use native.Mathlib.Omega.{arith}
use Rattle.fields.proofs.Laws.Chain.{step_holds}
use Rattle.fields.specs.Checks.{and_next, checked}
use Rattle.layout.specs.Bytes.{zeros}
use Rattle.layout.specs.Layout.Sizes.{item_bytes}
use Rattle.layout.specs.Shared.Types.{Kind, kind_of, closing, is_closed}
use Rattle.layout.specs.Sheet.{Item, Table}
use Rattle.layout.specs.Walk.{Walk, given, Check, answer, up_to, Holds, checks, ◌>>◌, ends}
use Rattle.layout.specs.Writing.Items.{ItemRow, item_row_in, item_rules, take_item}
use Rattle.layout.specs.Writing.Tables.{table, Taken, taken, flatten_item}
use Rattle.layout.specs.declared.Refusal.{Refusal}
use Rattle.laws.proofs.Base.Lists.{last_of}
use Rattle.laws.proofs.Encoding.Kinds.{closing_under}
use Rattle.writing_check.proofs.Laws.Moves.{after_checks}
use Rattle.writing_check.specs.Items.{row_of, length_of, size_rules}
use Rattle.writing_check.specs.Places.{capped, here, moved, moved_of}
use Rattle.writing_check.specs.declared.items.ItemNumbers.{ItemNumbers}
use Rattle.writing_check.specs.declared.places.Places.{Places}
use Rattle.std.specs.Prelude.{Result, Ok, Err}

pub record Sized (a : ItemNumbers) (k : Kind) (left : ℕ) : Type 0 where
  pub small : a.size < 4294967296
  pub closes : closing k ≤ a.size
  pub room : a.size ≤ left

pub sized : (a : ItemNumbers) (k : Kind) (left : ℕ) → Holds (size_rules a k left) → Sized a k left
sized a k left c = record {
  small = ltb-true _ _ c.0;
  closes = closing_under k a.scale a.size a.size (eqb-true _ _ c.1.0) c.1.1.0;
  room = leb-true _ _ c.1.1.1.0;
}

pub value-sized : (a : ItemNumbers) (k : Kind) (left p : ℕ) (r : Result (Unit {0}) Refusal) → ((y : ℕ) → r ≡ checked y p (size_rules a k left))
    → r ≡ Ok tt → Sized a k left
value-sized a k left p r n e = sized a k left (step_holds 0 p (size_rules a k left) r (n 0) tt e)

-- the closing zeros of a value that has room for them in the bytes xs from a place on
pub value-closed : (xs : List ℕ) (at : ℕ) (a : ItemNumbers) (k : Kind) → at ≤ length xs → Sized a k (length xs - at)
    → (c : ℕ) → c ≡ closing k → (part : List ℕ) → part ≡ take c (drop (at + a.size - c) xs)
    → (b : Bool) → b ≡ zeros part → b ≡ is_closed k (take a.size (drop at xs))
value-closed xs at a k l w c f part g b z =
    z ∙ ap zeros g ∙ ap zeros (sym (last_of xs at a.size c (omega (arith, w, f)) (omega (arith, w, f))))
    ∙ ap (λ c. zeros (drop (length (take a.size (drop at xs)) - c) (take a.size (drop at xs)))) f

-- an item whose row is so
abbrev item_with : ItemRow → ℕ → Table → Walk (Taken Item)
item_with a index t =
    checks index (item_rules a t.bytes)
    >> ends
    (taken
    (record { code = a.code; type = a.type; scale = a.scale; value = take a.size t.bytes })
    (table (drop 4 t.numbers) t.elements (drop a.size t.bytes)))

with_row : (a : ItemNumbers) (i : ℕ) (t : Table) → row_of a ≡ item_row_in t.numbers → item_with (row_of a) i t ≡ take_item i t
unfolding take_item
with_row a i t e = ap (λ r. item_with r i t) e

module _ (y : ℕ) (t : Table) (p : Places) (a : ItemNumbers) (row : row_of a ≡ item_row_in (drop p.number t.numbers)) where
  abbrev pub item_checks : List Check
  item_checks = item_rules (row_of a) (drop p.byte t.bytes)

  pub item_fits : Holds item_checks → (a.size < 4294967296) × (a.size ≤ length t.bytes - p.byte)
  unfolding item_rules
  item_fits c = (ltb-true a.size 4294967296 c.1.1.1.1.1.0, rw (← length-drop p.byte t.bytes) (leb-true a.size (length (drop p.byte t.bytes)) c.1.1.1.1.1.1.1.1.0))

  abbrev pub places_after : Places
  places_after =
      record {
        number = p.number + 4;
        element = p.element;
        byte = p.byte + a.size;
        length = capped (p.length + length_of a (kind_of a.t));
      }

  abbrev item : Taken Item
  item =
      taken
      (record { code = a.code; type = a.t; scale = a.scale; value = take a.size (drop p.byte t.bytes) })
      (table (drop 4 (drop p.number t.numbers)) (drop p.element t.elements) (drop a.size (drop p.byte t.bytes)))

  after : Holds item_checks → moved p (flatten_item item.value) (item_bytes item.value) ≡ places_after
  unfolding flatten_item
  after c = rw (length-take-le a.size (drop p.byte t.bytes) (omega (arith, (item_fits c).1, length-drop p.byte t.bytes)), add-zero) refl

  -- an item is the rules on it, and then the places after it
  pub item_moves : moved_of flatten_item item_bytes p (answer (up_to y) (take_item p.number (here t p)))
      ≡ and_next (checked y p.number item_checks) (Ok places_after)
  item_moves =
      ap (λ w. moved_of flatten_item item_bytes p (answer (up_to y) w)) (sym (with_row a p.number (here t p) row))
      ∙ after_checks _ y p.number item_checks (ends item)
      ∙ go (checked y p.number item_checks) refl
    where
      go : (r : Result (Unit {0}) Refusal) → r ≡ checked y p.number item_checks
          → and_next r (moved_of flatten_item item_bytes p (given item)) ≡ and_next r (Ok places_after)
      go (Ok u) e = ap Ok (after (step_holds y p.number item_checks (Ok u) e u refl))
      go (Err q) e = refl
