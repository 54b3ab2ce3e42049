-- Pieces one after another: what an emitter asks of the next, and what it has done. One invariant serves every loop.
use mathlib.Core.List.{List, [], ◌∷◌, ◌++◌}
use mathlib.Core.Path.{◌≡◌, refl, ap, sym, subst, ◌∙◌}
use Prim.Native.Nat.{ℕ, ◌+◌, ◌≤◌, ◌<◌}
use lib.ListN.{length, length-append}
use lib.Seq.{sets, length-sets}
use native.Mathlib.Omega.{arith}
use Rattle.writing_emit.specs.Cursors.{ahead, moved, Room}
use Rattle.writing_emit.specs.Pieces.{Piece, Emitted, Counted, pair_table, Both, pair_bytes}
use Rattle.fields.specs.declared.cursors.Cursor.{Cursor}
use Rattle.fields.proofs.Laws.Cursors as Place
use Rattle.fields.proofs.Laws.Put.{sets_append}
use Rattle.layout.specs.Bytes.{flat}
use Rattle.layout.specs.Sheet.{Table}
use Rattle.layout.specs.Writing.Tables.{join, joined, Taken}
use Rattle.laws.proofs.Writing.Takes.{join_assoc}
use Rattle.laws.proofs.Writing.Turns.{rest_at}
use Rattle.writing_emit.proofs.Laws.Unique.{Unique, list_unique, pair_unique}

-- a cursor moved twice
pub moved_twice : (c : Cursor) (e g : Table) (x y : List ℕ) → moved (moved c e x) g y ≡ moved c (join e g) (x ++ y)
moved_twice c e g x y = rw length-append (Place.moved_twice c (length x) (length y) e g)

pub sets_twice : (o₀ o₁ o₂ : List ℕ) (w : ℕ) (x y : List ℕ) → o₁ ≡ sets o₀ w x → o₂ ≡ sets o₁ (w + length x) y → o₂ ≡ sets o₀ w (x ++ y)
sets_twice o₀ o₁ o₂ w x y e f = f ∙ rw e (sym (sets_append o₀ w x y))

module _ (c : Cursor) (e g : Table) (x y : List ℕ) (t : Table) (ol : ℕ) (r : Room c (join e g) (length (x ++ y)) t ol) where
  both : Room c (join e g) (length x + length y) t ol
  both = rw length-append at r

  pub room-first : Room c e (length x) t ol
  room-first = Place.room-first c (length x) (length y) e g _ _ _ _ both

  pub room-second : Room (moved c e x) g (length y) t ol
  room-second = Place.room-second c (length x) (length y) e g _ _ _ _ both

-- a piece starts within the table's numbers
pub piece_some : {A : Type 0} (E : A → Table) (F : A → Type 0) (B : A → List ℕ) (c : Cursor) (t : Table) (ol : ℕ) → Piece E F B c t ol
    → c.numbers ≤ length t.numbers
piece_some E F B c t ol p = let n = p.room.numbers in omega (arith, n)

-- what comes after e in t, from the cursor past e
pub ahead-moved : (c : Cursor) (e rest : Table) (x : List ℕ) (t : Table) → join e rest ≡ ahead c t → rest ≡ ahead (moved c e x) t
ahead-moved c e rest x t h = rest_at e rest t c.numbers c.elements c.bytes h

-- what is shown of one piece that stands there is so of all, for there is one only
pub emitted : {A : Type 0} (E : A → Table) (F : A → Type 0) (B : A → List ℕ) → Unique E F
    → (c : Cursor) (t : Table) (o₀ o₁ : List ℕ) (r : Cursor) (a : A) (rest : Table)
    → F a → join (E a) rest ≡ ahead c t → r ≡ moved c (E a) (B a) → o₁ ≡ sets o₀ c.place (B a) → Emitted E F B c t o₀ o₁ r
emitted {A} E F B U c t o₀ o₁ r a rest f e m w = record {
  all = λ b u g h.
      let q : a ≡ b = ap (λ (x : Taken A). x.value) (U.same a b rest u f g (e ∙ sym h)) in
      (m ∙ ap (λ z. moved c (E z) (B z)) q, w ∙ ap (λ z. sets o₀ c.place (B z)) q);
}

-- a piece, and then another
module _ {A B : Type 0} (E : A → Table) (F : A → Type 0) (X : A → List ℕ) (G : B → Table) (H : B → Type 0) (Y : B → List ℕ) (U : Unique E F) (W : Unique G H)
    (c : Cursor) (t : Table) (o₀ : List ℕ) (p : Piece (pair_table E G) (Both F H) (pair_bytes X Y) c t (length o₀)) where
  first-is : join (E p.value.0) (join (G p.value.1) p.rest) ≡ ahead c t
  first-is = sym (join_assoc (E p.value.0) (G p.value.1) p.rest) ∙ p.is

  pub pair-first : Piece E F X c t (length o₀)
  pair-first = record {
    value = p.value.0;
    rest = join (G p.value.1) p.rest;
    is = first-is;
    fine = p.fine.0;
    room = room-first c (E p.value.0) (G p.value.1) (X p.value.0) (Y p.value.1) t (length o₀) p.room;
  }

  module _ (o₁ : List ℕ) (d : Cursor) (one : Emitted E F X c t o₀ o₁ d) where
    first_did : (d ≡ moved c (E p.value.0) (X p.value.0)) × (o₁ ≡ sets o₀ c.place (X p.value.0))
    first_did = one.all p.value.0 (join (G p.value.1) p.rest) p.fine.0 first-is

    second_is : join (G p.value.1) p.rest ≡ ahead d t
    second_is = rw first_did.0 (ahead-moved c (E p.value.0) (join (G p.value.1) p.rest) (X p.value.0) t first-is)

    pub pair-second : Piece G H Y d t (length o₁)
    pair-second = record {
      value = p.value.1;
      rest = p.rest;
      is = second_is;
      fine = p.fine.1;
      room =
          let len : length o₁ ≡ length o₀ = ap length first_did.1 ∙ length-sets o₀ c.place (X p.value.0) in
          rw (first_did.0, len) (room-second c (E p.value.0) (G p.value.1) (X p.value.0) (Y p.value.1) t (length o₀) p.room);
    }

    pub pair_done : (o₂ : List ℕ) (r : Cursor) → Emitted G H Y d t o₁ o₂ r → Emitted (pair_table E G) (Both F H) (pair_bytes X Y) c t o₀ o₂ r
    pair_done o₂ r two =
        let did = two.all p.value.1 p.rest p.fine.1 second_is in
        let m : r ≡ moved (moved c (E p.value.0) (X p.value.0)) (G p.value.1) (Y p.value.1) = did.0 ∙ rw first_did.0 refl in
        let w : o₂ ≡ sets o₁ (c.place + length (X p.value.0)) (Y p.value.1) = did.1 ∙ rw first_did.0 refl in
        emitted (pair_table E G) (Both F H) (pair_bytes X Y) (pair_unique E F U G H W) c t o₀ o₂ r p.value p.rest p.fine p.is
        (m ∙ moved_twice c (E p.value.0) (G p.value.1) (X p.value.0) (Y p.value.1))
        (sets_twice o₀ o₁ o₂ c.place (X p.value.0) (Y p.value.1) first_did.1 w)

-- a loop over n pieces
module _ {A : Type 0} (E : A → Table) (F : A → Type 0) (B : A → List ℕ) (U : Unique E F) (n : ℕ) (c : Cursor) (t : Table) (o₀ : List ℕ) where
  -- the whole, and the pieces that are left after k, from the cursor at on, where the slice is o
  pub record Left (k : ℕ) (at : Cursor) (o : List ℕ) : Type 0 where
    pub left : ℕ
    pub count : k + left ≡ n
    pub whole : Piece (joined E) (Counted n F) (flat B) c t (length o₀)
    pub more : Piece (joined E) (Counted left F) (flat B) at t (length o)
    pub ends : moved c (joined E whole.value) (flat B whole.value) ≡ moved at (joined E more.value) (flat B more.value)
    pub wrote : sets o₀ c.place (flat B whole.value) ≡ sets o at.place (flat B more.value)
    pub len : length o ≡ length o₀

  pub left-start : Piece (joined E) (Counted n F) (flat B) c t (length o₀) → Left 0 c o₀
  left-start p = record { left = n; count = omega arith; whole = p; more = p; ends = refl; wrote = refl; len = refl }

  module _ (k : ℕ) (at : Cursor) (o : List ℕ) (g : Left k at o) where
    pub left_done : n ≤ k → Emitted (joined E) (Counted n F) (flat B) c t o₀ o at
    left_done h =
        let w = g.whole in
        let z : g.more.value ≡ [] = none g.more.value (omega (arith, g.more.fine.0, g.count)) in
        emitted (joined E) (Counted n F) (flat B) (list_unique E F U n) c t o₀ o at w.value w.rest w.fine w.is
        (sym (g.ends ∙ ap (λ l. moved at (joined E l) (flat B l)) z ∙ Place.moved_none at))
        (sym (g.wrote ∙ ap (λ l. sets o at.place (flat B l)) z))
      where
        none : (l : List A) → length l ≤ 0 → l ≡ []
        none [] q = refl
        none (a ∷ l) q = absurd (omega arith)

    -- the pieces that are left are one and others
    record Cut : Type 0 where
      pub head : A
      pub tail : List A
      pub is : g.more.value ≡ head ∷ tail

    cut : k < n → Cut
    cut h = go g.more.value refl (omega (arith, h, g.more.fine.0, g.count))
      where
        go : (l : List A) → g.more.value ≡ l → 0 < length l → Cut
        go [] e q = absurd (omega arith)
        go (a ∷ l) e q = record { head = a; tail = l; is = e }

    module _ (h : k < n) where
      abbrev next : Cut
      next = cut h

      fine-all : Counted g.left F (next.head ∷ next.tail)
      fine-all = subst (λ l. Counted g.left F l) next.is g.more.fine

      stands : join (joined E (next.head ∷ next.tail)) g.more.rest ≡ ahead at t
      stands = subst (λ l. join (joined E l) g.more.rest ≡ ahead at t) next.is g.more.is

      here : join (E next.head) (join (joined E next.tail) g.more.rest) ≡ ahead at t
      here = sym (join_assoc (E next.head) (joined E next.tail) g.more.rest) ∙ stands

      all_room : Room at (joined E (next.head ∷ next.tail)) (length (flat B (next.head ∷ next.tail))) t (length o)
      all_room = subst (λ l. Room at (joined E l) (length (flat B l)) t (length o)) next.is g.more.room

      pub left-next : Piece E F B at t (length o)
      left-next = record {
        value = next.head;
        rest = join (joined E next.tail) g.more.rest;
        is = here;
        fine = fine-all.1.0;
        room = room-first at (E next.head) (joined E next.tail) (B next.head) (flat B next.tail) t (length o) all_room;
      }

      pub left-turn : (o' : List ℕ) (at' : Cursor) → Emitted E F B at t o o' at' → Left (k + 1) at' o'
      left-turn o' at' done =
          let a = next.head in
          let l = next.tail in
          let did = done.all a (join (joined E l) g.more.rest) fine-all.1.0 here in
          let len : length o' ≡ length o = ap length did.1 ∙ length-sets o at.place (B a) in
          record {
            left = length l;
            count = omega (arith, g.count, fine-all.0);
            whole = g.whole;
            more = record {
              value = l;
              rest = g.more.rest;
              is = rw did.0 (ahead-moved at (E a) (join (joined E l) g.more.rest) (B a) t here);
              fine = (refl, fine-all.1.1);
              room = rw (did.0, len) (room-second at (E a) (joined E l) (B a) (flat B l) t (length o) all_room);
            };
            ends = g.ends ∙ ap (λ m. moved at (joined E m) (flat B m)) next.is ∙ sym (moved_twice at (E a) (joined E l) (B a) (flat B l)) ∙ rw did.0 refl;
            wrote = g.wrote ∙ ap (λ m. sets o at.place (flat B m)) next.is ∙ sets_append o at.place (B a) (flat B l) ∙ rw (did.0, did.1) refl;
            len = len ∙ g.len;
          }
