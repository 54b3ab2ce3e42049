-- What stands in a table at a place is one piece only: two that are flattened there are the same.
use mathlib.Core.List.{List, [], ◌∷◌}
use mathlib.Core.Path.{◌≡◌, ap, sym, ◌∙◌}
use Prim.Native.Nat.{ℕ, ◌*◌}
use lib.ListN.{length, take, drop}
use lib.Seq.{take_at, drop_at, take-append_seam, drop-append_seam}
use native.Mathlib.Omega.{arith}
use Rattle.writing_emit.specs.Parts.{PartFits}
use Rattle.writing_emit.specs.Pieces.{Counted, pair_table, Both}
use Rattle.fields.specs.Shapes.{widths_of}
use Rattle.fields.specs.declared.shapes.Shape.{Shape}
use Rattle.layout.specs.Bytes.{All, repeat}
use Rattle.layout.specs.Layout.Fine.{FineItem, FineRecord}
use Rattle.layout.specs.Shared.Row
use Rattle.layout.specs.Sheet.{Part, Table}
use Rattle.layout.specs.Walk.{always, answer}
use Rattle.layout.specs.Writing.Tables.{table, join, joined, Taken, taken, Taker, flatten_part, flatten_item, flatten_record}
use Rattle.laws.proofs.Base.Numbers.{length-repeat}
use Rattle.laws.proofs.Base.Walks.{given_inj, allowed-always}
use Rattle.laws.proofs.Writing.Items.{item_takes}
use Rattle.laws.proofs.Writing.Parts.{fit_on}
use Rattle.laws.proofs.Writing.Records.{NearRecord, fine-near, record_takes}
use Rattle.laws.proofs.Writing.Takes.{Takes, join_assoc}

pub record Unique {A : Type 0} (E : A → Table) (F : A → Type 0) : Type 0 where
  pub same : (a b : A) (u v : Table) → F a → F b → join (E a) u ≡ join (E b) v → taken a u ≡ taken b v

-- what a taker takes of a table is one piece
takes_unique : {A : Type 0} (k : ℕ) (r : Taker A) (E : A → Table) (F : A → Type 0) (Y : A → List ℕ) → Takes always k r E F Y → Unique E F
takes_unique k r E F Y T = record {
  same = λ a b u v f g e.
      given_inj (sym (T.complete 0 a u f (allowed-always (Y a))) ∙ ap (λ t. answer always (r 0 t)) e ∙ T.complete 0 b v g (allowed-always (Y b)));
}

pub item_unique : Unique flatten_item FineItem
item_unique = takes_unique _ _ _ _ _ (item_takes always)

near_unique : Unique flatten_record NearRecord
near_unique = takes_unique _ _ _ _ _ (record_takes always)

pub record_unique : Unique flatten_record FineRecord
record_unique = record { same = λ a b u v f g e. near_unique.same a b u v (fine-near a f) (fine-near b g) e }

-- a part of that shape at the start of a table
abbrev part_in : Shape → Table → Taken Part
part_in s t =
    let n = Row.nth t.numbers Row.points * length (widths_of s) in
    let k = Row.nth t.numbers Row.text_length in
    taken
    (record { points = Row.nth t.numbers Row.points; elements = take n t.elements; text = take k t.bytes })
    (table (drop Row.part_width t.numbers) (drop n t.elements) (drop k t.bytes))

pub part-elements : (s : Shape) (a : Part) → PartFits s a → length a.elements ≡ a.points * length (widths_of s)
part-elements s a f = (fit_on (repeat a.points (widths_of s)) a.elements [] f.elements).1 ∙ length-repeat a.points (widths_of s)

part_in_lem : (s : Shape) (a : Part) (rest : Table) → PartFits s a → part_in s (join (flatten_part a) rest) ≡ taken a rest
unfolding flatten_part
part_in_lem s a rest f =
    let n = a.points * length (widths_of s) in
    let len = part-elements s a f in
    let e1 = take_at a.elements rest.elements n len in
    let e2 = drop_at a.elements rest.elements n len in
    let p1 = take-append_seam a.text rest.bytes in
    let p2 = drop-append_seam a.text rest.bytes in
    λ j. taken (record { points = a.points; elements = e1 j; text = p1 j }) (table rest.numbers (e2 j) (p2 j))

pub part_unique : (s : Shape) → Unique flatten_part (PartFits s)
part_unique s = record { same = λ a b u v f g e. sym (part_in_lem s a u f) ∙ ap (λ t. part_in s t) e ∙ part_in_lem s b v g }

module _ {A : Type 0} (E : A → Table) (F : A → Type 0) (U : Unique E F) where
  list_same : (l m : List A) (u v : Table) → length l ≡ length m → All F l → All F m → join (joined E l) u ≡ join (joined E m) v → taken l u ≡ taken m v
  list_same [] [] u v n f g e = ap (λ t. taken [] t) e
  list_same [] (b ∷ m) u v n f g e = absurd (omega (arith, n))
  list_same (a ∷ l) [] u v n f g e = absurd (omega (arith, n))
  list_same (a ∷ l) (b ∷ m) u v n f g e =
      let one = U.same a b (join (joined E l) u) (join (joined E m) v) f.0 g.0
      (sym (join_assoc (E a) (joined E l) u) ∙ e ∙ join_assoc (E b) (joined E m) v) in
      let more = list_same l m u v (omega (arith, n)) f.1 g.1 (ap (λ (x : Taken A). x.left) one) in
      λ j. taken ((one j).value ∷ (more j).value) (more j).left

  pub list_unique : (n : ℕ) → Unique (joined E) (Counted n F)
  list_unique n = record { same = λ l m u v f g e. list_same l m u v (f.0 ∙ sym g.0) f.1 g.1 e }

module _ {A B : Type 0} (E : A → Table) (F : A → Type 0) (U : Unique E F) (G : B → Table) (H : B → Type 0) (W : Unique G H) where
  pub pair_unique : Unique (pair_table E G) (Both F H)
  pair_unique = record {
    same = λ p q u v f g e.
        let one = U.same p.0 q.0 (join (G p.1) u) (join (G q.1) v) f.0 g.0
        (sym (join_assoc (E p.0) (G p.1) u) ∙ e ∙ join_assoc (E q.0) (G q.1) v) in
        let two = W.same p.1 q.1 u v f.1 g.1 (ap (λ (x : Taken A). x.left) one) in
        λ j. taken ((one j).value, (two j).value) (two j).left;
  }
