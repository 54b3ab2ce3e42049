-- Cursors that move on: what is still to be written onto the slices as they are gives what was to be written onto them as they came.
-- One invariant for every loop of pass 2, and for pieces that are written one after another.
use mathlib.Core.List.{[]}
use mathlib.Core.Path.{◌≡◌, refl, sym, ap, ◌∙◌}
use Prim.Native.Nat.{ℕ, ◌+◌}
use lib.ListN.{length}
use lib.Seq.{sets, length-sets}
use native.Mathlib.Omega.{arith}
use Rattle.reading_fill.specs.Cursors.{HasRoom, Same, Fills}
use Rattle.reading_fill.specs.declared.filler.Filler.{Filler}
use Rattle.fields.specs.Cursors.{moved, Room}
use Rattle.fields.specs.declared.cursors.Cursor.{Cursor}
use Rattle.layout.specs.Sheet.{Table}
use Rattle.layout.specs.Writing.Tables.{table, join}
use Rattle.fields.proofs.Laws.Cursors.{moved_twice, moved_none}
use Rattle.fields.proofs.Laws.Put.{sets_append}

pub same_self : (f : Filler) → Same f f
same_self f = record { numbers = refl; elements = refl; bytes = refl }

pub same_twice : (f g h : Filler) → Same f g → Same g h → Same f h
same_twice f g h s u = record { numbers = u.numbers ∙ s.numbers; elements = u.elements ∙ s.elements; bytes = u.bytes ∙ s.bytes }

-- slices that were written are as long as before
module _ (c : Cursor) (t : Table) (f g : Filler) (w : Fills c t f g) where
  pub long : (length g.numbers.now ≡ length f.numbers.now) × (length g.elements.now ≡ length f.elements.now)
      × (length g.bytes.now ≡ length f.bytes.now)
  long = (
    ap length w.numbers ∙ length-sets f.numbers.now c.numbers t.numbers,
    ap length w.elements ∙ length-sets f.elements.now c.elements t.elements,
    ap length w.bytes ∙ length-sets f.bytes.now c.bytes t.bytes,
  )

  pub room_kept : (d : Cursor) (k : ℕ) (a : Table) (xl : ℕ) → HasRoom d k a xl f → HasRoom d k a xl g
  room_kept d k a xl r = rw (long.0, long.1, long.2) r

-- one table after another
pub fills_twice : (c : Cursor) (k : ℕ) (a b : Table) (f g h : Filler) → Fills c a f g → Fills (moved c k a) b g h → Fills c (join a b) f h
fills_twice c k a b f g h u w =
    record {
      numbers = w.numbers ∙ rw u.numbers (sym (sets_append f.numbers.now c.numbers a.numbers b.numbers));
      elements = w.elements ∙ rw u.elements (sym (sets_append f.elements.now c.elements a.elements b.elements));
      bytes = w.bytes ∙ rw u.bytes (sym (sets_append f.bytes.now c.bytes a.bytes b.bytes));
      same = same_twice f g h u.same w.same;
    }

module _ (c : Cursor) (k : ℕ) (whole : Table) (f₀ : Filler) where
  -- m bytes and the table rest are left, from the cursor at on, where the slices are those of f
  pub record Left (at : Cursor) (m : ℕ) (rest : Table) (f : Filler) : Type 0 where
    pub ends : moved c k whole ≡ moved at m rest
    pub numbers : sets f₀.numbers.now c.numbers whole.numbers ≡ sets f.numbers.now at.numbers rest.numbers
    pub elements : sets f₀.elements.now c.elements whole.elements ≡ sets f.elements.now at.elements rest.elements
    pub bytes : sets f₀.bytes.now c.bytes whole.bytes ≡ sets f.bytes.now at.bytes rest.bytes
    pub len_t : length f.numbers.now ≡ length f₀.numbers.now
    pub len_e : length f.elements.now ≡ length f₀.elements.now
    pub len_b : length f.bytes.now ≡ length f₀.bytes.now
    pub same : Same f₀ f

  pub left-start : Left c k whole f₀
  left-start = record {
    ends = refl;
    numbers = refl;
    elements = refl;
    bytes = refl;
    len_t = refl;
    len_e = refl;
    len_b = refl;
    same = same_self f₀;
  }

  module _ (at : Cursor) (m : ℕ) (rest : Table) (f : Filler) (g : Left at m rest f) where
    pub left-room : (xl : ℕ) → HasRoom c k whole xl f₀ → HasRoom at m rest xl f
    left-room xl r =
        omega (
          arith,
          r,
          ap (λ (z : Cursor). z.place) g.ends,
          ap (λ (z : Cursor). z.numbers) g.ends,
          ap (λ (z : Cursor). z.elements) g.ends,
          ap (λ (z : Cursor). z.bytes) g.ends,
          g.len_t,
          g.len_e,
          g.len_b,
        )

    -- the same where nothing is known of the pool of elements, and el is any bound
    pub left-room-flat : (xl el : ℕ) → Room c k whole xl (length f₀.numbers.now) el (length f₀.bytes.now)
        → Room at m rest xl (length f.numbers.now) el (length f.bytes.now)
    left-room-flat xl el r =
        omega (
          arith,
          r,
          ap (λ (z : Cursor). z.place) g.ends,
          ap (λ (z : Cursor). z.numbers) g.ends,
          ap (λ (z : Cursor). z.elements) g.ends,
          ap (λ (z : Cursor). z.bytes) g.ends,
          g.len_t,
          g.len_b,
        )

    pub left_done : m ≡ 0 → rest ≡ table [] [] [] → (at ≡ moved c k whole) × Fills c whole f₀ f
    left_done z n =
        let none : moved c k whole ≡ moved at 0 (table [] [] []) = rw (z, n) at g.ends in (
          sym (none ∙ moved_none at),
          record {
            numbers = sym (g.numbers ∙ rw n refl);
            elements = sym (g.elements ∙ rw n refl);
            bytes = sym (g.bytes ∙ rw n refl);
            same = g.same;
          },
        )

    -- one piece more: a takes n bytes of the m, and its table is the first of the rest
    pub left-turn : (n l : ℕ) (a more : Table) → m ≡ n + l → rest ≡ join a more → (at' : Cursor) (f' : Filler) → at' ≡ moved at n a → Fills at a f f'
        → Left at' l more f'
    left-turn n l a more em er at' f' ea w =
        let ends : moved c k whole ≡ moved at (n + l) (join a more) = rw (em, er) at g.ends in
        let len = long at a f f' w in
        let e : moved at' l more ≡ moved (moved at n a) l more = rw ea refl in
        let wn : sets f'.numbers.now at'.numbers more.numbers
        ≡ sets (sets f.numbers.now at.numbers a.numbers) (at.numbers + length a.numbers) more.numbers = rw (ea, w.numbers) refl in
        let we : sets f'.elements.now at'.elements more.elements
        ≡ sets (sets f.elements.now at.elements a.elements) (at.elements + length a.elements) more.elements = rw (ea, w.elements) refl in
        let wb : sets f'.bytes.now at'.bytes more.bytes
        ≡ sets (sets f.bytes.now at.bytes a.bytes) (at.bytes + length a.bytes) more.bytes = rw (ea, w.bytes) refl in
        record {
          ends = ends ∙ sym (e ∙ moved_twice at n l a more);
          numbers = g.numbers ∙ rw er (sets_append f.numbers.now at.numbers a.numbers more.numbers) ∙ sym wn;
          elements = g.elements ∙ rw er (sets_append f.elements.now at.elements a.elements more.elements) ∙ sym we;
          bytes = g.bytes ∙ rw er (sets_append f.bytes.now at.bytes a.bytes more.bytes) ∙ sym wb;
          len_t = len.0 ∙ g.len_t;
          len_e = len.1 ∙ g.len_e;
          len_b = len.2 ∙ g.len_b;
          same = same_twice f₀ f f' g.same w.same;
        }
