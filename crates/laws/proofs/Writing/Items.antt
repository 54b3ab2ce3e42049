-- An item is taken from a table exactly as it is flattened.
use mathlib.Core.Bool.{Bool, true}
use mathlib.Core.List.{List, [], ◌∷◌, ◌++◌}
use mathlib.Core.Path.{◌≡◌, refl, ◌∙◌}
use Prim.Native.Nat.{ℕ, ◌≤◌}
use borrow.Author.Tests.{leb-true, le-leb, ltb-true, lt-ltb, eqb-true, eq-eqb}
use lib.ListN.{length, take, drop, get_or, length-append, take-append-drop}
use lib.Seq.{take-append_seam, drop-append_seam, length-take-le}
use native.Mathlib.Omega.{arith}
use Rattle.layout.specs.Layout.Fine.{FineItem}
use Rattle.layout.specs.Layout.Uses.{item_years}
use Rattle.layout.specs.Shared.Types.{kind_of, is_closed}
use Rattle.layout.specs.Sheet.{Item}
use Rattle.layout.specs.Walk.{given}
use Rattle.layout.specs.Writing.Items.{ItemRow, item_row_in, item_rules, take_item}
use Rattle.layout.specs.Writing.Tables.{table, join, joined, taken, flatten_item}
use Rattle.laws.proofs.Base.Lists.{◌&◌, all_take}
use Rattle.laws.proofs.Base.Walks.{given_inj, checks_case, checks_on}
use Rattle.laws.proofs.Writing.Takes.{Takes, table_path}

-- the first four of at least four numbers, and the others
four : (l : List ℕ) → 4 ≤ length l → get_or l 0 0 ∷ get_or l 1 0 ∷ get_or l 2 0 ∷ get_or l 3 0 ∷ drop 4 l ≡ l
four [] h = absurd (omega arith)
four (a ∷ []) h = absurd (omega arith)
four (a ∷ b ∷ []) h = absurd (omega arith)
four (a ∷ b ∷ c ∷ []) h = absurd (omega arith)
four (a ∷ b ∷ c ∷ d ∷ l) h = refl

pub item_takes : (al : ℕ → Bool) → Takes al 4 take_item flatten_item FineItem item_years
unfolding take_item item_rules flatten_item item_years
item_takes al = record {
  sound = λ i t h b v e.
      let a : ItemRow = item_row_in t.numbers in
      let n : ℕ = a.size in
      checks_case al i (item_rules a t.bytes) _ v e λ c y g.
      let room : n ≤ length t.bytes = search leb-true in
      let len : length (take n t.bytes) ≡ n = length-take-le n t.bytes room in
      rw (← (given_inj g)) (
        record {
          code = search ltb-true;
          type = search ltb-true;
          scale = search ltb-true;
          known = search;
          scaled = search;
          sized = rw len (search eqb-true);
          measured = rw len (search);
          short = rw len (search ltb-true);
          closed = search;
          is_bytes = all_take _ n t.bytes b;
        },
        y,
        table_path _ t (rw len (four t.numbers h)) refl (take-append-drop n t.bytes),
      );
  complete = λ i a rest f y.
      let p = a.value ++ rest.bytes in
      let n = length a.value in
      let value : take n p ≡ a.value = take-append_seam a.value rest.bytes in
      let item : record { code = a.code; type = a.type; scale = a.scale; value = take n p } ≡ a =
      λ j. record { code = a.code; type = a.type; scale = a.scale; value = value j } in
      let left : drop n p ≡ rest.bytes = drop-append_seam a.value rest.bytes in
      let room : n ≤ length p = omega (arith, length-append a.value rest.bytes) in
      let shut : is_closed (kind_of a.type) (take n p) ≡ true = rw value f.closed in
      checks_on al i (item_rules (item_row_in (join (flatten_item a) rest).numbers) p) _
      (lt-ltb _ _ f.code & lt-ltb _ _ f.type & f.known & lt-ltb _ _ f.scale & f.scaled
      & lt-ltb _ _ f.short & eq-eqb _ _ f.sized & f.measured & le-leb _ _ room & shut & tt) y
      ∙ (λ j. given (taken (item j) (table rest.numbers rest.elements (left j))));
}

-- no item has elements
pub items-flat : (l : List Item) → (joined flatten_item l).elements ≡ []
unfolding flatten_item
items-flat [] = refl
items-flat (i ∷ l) = items-flat l

-- an item has four numbers
pub item-numbers : (a : Item) → length (flatten_item a).numbers ≡ 4
unfolding flatten_item
item-numbers a = refl
