-- The round trips as promises of the calls' contracts: what `write` says it wrote is a sheet that the laws read back, and what `unfold` says it
-- read is a table that the laws write again. (Demand 2, as 02, 6 has it: "writing the reading of an accepted sheet gives its bytes with those
-- tails cleared and the sum to match"; "reading a written sheet gives back the table.") `Typed h` and `Bytes` say no more than the types of
-- what is lent (src/lent.rt); src/round.rt asks neither.
use mathlib.Core.List.{List}
use mathlib.Core.Path.{◌≡◌, refl, sym, ap, ap₂, ◌∙◌, subst}
use Prim.Native.Nat.{ℕ, ◌≤◌}
use lib.ListN.{length, take}
use Rattle.layout.specs.Answers.Calls.{and_then, reading, in_rooms, roomy, unfolded, written, over, lent}
use Rattle.layout.specs.Answers.Enums.{sizes_of, checked_of, head_at, headed_of, written_of}
use Rattle.layout.specs.Answers.Lent.{rooms, the_numbers, the_elements, the_bytes, the_sheet}
use Rattle.layout.specs.Bytes.{Bytes}
use Rattle.layout.specs.Layout.Cleared.{cleared}
use Rattle.layout.specs.Reading.Sheets.{head_in, tails_in}
use Rattle.layout.specs.Shared.Tails.{AllClean, clean_tails}
use Rattle.layout.specs.Sheet.{Head, Sheet, Table}
use Rattle.layout.specs.Walk.{given}
use Rattle.layout.specs.Writing.Tables.{table, flatten}
use Rattle.layout.specs.declared.HeadAt.{HeadAt}
use Rattle.layout.specs.declared.Sizes.{Sizes}
use Rattle.laws.proofs.Again as Law
use Rattle.laws.proofs.Writing.Sheets.{Typed}
use Rattle.laws.proofs.Written.{by_length}
use Rattle.promises.proofs.Contracts.{Checks, Heads, Unfolds, Writes}
use Rattle.promises.proofs.Heads.{head-is, tails_are, head-given, head_by_lem, says_clean, tails-clean}
use Rattle.promises.proofs.Rooms.{Fit, rooms_on, roomy_back, part_again, part-within}
use Rattle.promises.specs.Hands.{head_by, SaysClean, table_by, TableWithin}
use Rattle.reading.proofs.Laws.Seen.{by_accepted}
use Rattle.layout.specs.declared.Refusal.{Refusal}
use Rattle.std.specs.Prelude.{Result, Ok}

module _ (y : ℕ) (h : Head) (t : Table) (o out : List ℕ) (n : ℕ) (w : Writes y h t o out (Ok n)) where
  -- the sheet that the call says was written
  abbrev pub sheet : List ℕ
  sheet = take n out

  pub was : written y h t (length o) ≡ given sheet
  was =
      let s = by_length (written y h t (length o)) n w.0 in
      s.1 ∙ ap given (sym (part_again the_sheet _ s.0 s.1 o out w.1 n s.2))

  -- the slice has that many bytes at least
  pub length-within : n ≤ length out
  length-within = let s = by_length (written y h t (length o)) n w.0 in part-within the_sheet _ s.0 s.1 o out w.1 n s.2

  module _ (typed : Typed h) (bs : Bytes t.bytes) where
    -- what is read of it
    again : (u : Sheet) × (reading y sheet ≡ given u) × (u.head ≡ h) × (flatten u.records ≡ t)
    again = Law.read_again y h t (length o) sheet typed bs was

    -- Reading a written sheet gives back the table: unfolding it, where there is room, fills the slices with the numbers, elements and
    -- bytes that were given to the writer, and leaves the rest of each as it was.
    pub read_again : (t₀ e₀ b₀ t₁ e₁ b₁ : List ℕ) (r : Result Sizes Refusal) → Unfolds y sheet t₀ e₀ b₀ t₁ e₁ b₁ r → Fit (rooms t₀ e₀ b₀) t
        → (t₁ ≡ over t.numbers t₀) × (e₁ ≡ over t.elements e₀) × (b₁ ≡ over t.bytes b₀)
    read_again t₀ e₀ b₀ t₁ e₁ b₁ r u f =
        let all = Law.unfolded_again y h t (length o) sheet typed bs was (rooms t₀ e₀ b₀) f.0 f.1 f.2 in (
          u.1.0 ∙ ap (λ a. lent the_numbers a t₀) all,
          u.1.1.0 ∙ ap (λ a. lent the_elements a e₀) all,
          u.1.1.1 ∙ ap (λ a. lent the_bytes a b₀) all,
        )

    -- That call accepts it then, with that table's lengths,
    pub unfold_again : (t₀ e₀ b₀ t₁ e₁ b₁ : List ℕ) (r : Result Sizes Refusal) → Unfolds y sheet t₀ e₀ b₀ t₁ e₁ b₁ r → Fit (rooms t₀ e₀ b₀) t
        → (u : Sheet) × (u.head ≡ h) × (flatten u.records ≡ t) × (r ≡ Ok (sizes_of u))
    unfolding checked_of roomy
    unfold_again t₀ e₀ b₀ t₁ e₁ b₁ r c f =
        let m = rooms t₀ e₀ b₀ in (
          again.0,
          again.2,
          again.3,
          c.0
              ∙ ap (λ x. checked_of (and_then x (λ u. and_then (in_rooms m (flatten u.records)) (λ _. given u)))) again.1
              ∙ ap (λ k. checked_of (and_then (in_rooms m k) (λ _. given again.0))) again.3
              ∙ ap (λ x. checked_of (and_then x (λ _. given again.0))) (rooms_on m t f),
        )

    -- and so does `check`, whatever is lent.
    pub accepted : (r : Result Sizes Refusal) → Checks y sheet r → (u : Sheet) × (u.head ≡ h) × (flatten u.records ≡ t) × (r ≡ Ok (sizes_of u))
    unfolding checked_of
    accepted r c = (again.0, again.2, again.3, c ∙ ap checked_of again.1)

    -- The head is the one that was given: `head_of` answers its lengths and its scale, and the bytes that a caller then takes from the sheet
    -- are that head, byte for byte. All four text fields are clean.
    pub head_again : (r : Result HeadAt Refusal) → Heads y sheet r
        → (a : HeadAt) × (r ≡ Ok a) × (a ≡ head_at h (clean_tails h)) × (head_by sheet a ≡ h) × SaysClean a
    unfolding headed_of
    head_again r c =
        let clean = Law.written-clean y h t (length o) sheet typed bs was again.0 again.1 in (
          head_at h (clean_tails h),
          c ∙ ap headed_of (again.1 ∙ ap given clean) ∙ ap (λ k. Ok (head_at k (clean_tails k))) again.2,
          refl,
          head-given sheet h (clean_tails h) (head-is y sheet again.0 again.1 ∙ again.2),
          says_clean h,
        )

-- The other way round: the sheet s was unfolded.
module _ (y : ℕ) (s : List ℕ) (t₀ e₀ b₀ t₁ e₁ b₁ : List ℕ) (z : Sizes) (f : Unfolds y s t₀ e₀ b₀ t₁ e₁ b₁ (Ok z)) where
  -- what was read, and that its table was answered
  got : (u : Sheet) × (reading y s ≡ given u) × (unfolded y s (rooms t₀ e₀ b₀) ≡ given (flatten u.records)) × (z ≡ sizes_of u)
  got =
      let g = by_accepted (roomy y s (rooms t₀ e₀ b₀)) z f.0 in
      let back = roomy_back y s (rooms t₀ e₀ b₀) g.0 g.1 in
      (g.0, back.0, back.1, g.2)

  -- the filled parts of the slices are that table
  table_by_lem : table_by z t₁ e₁ b₁ ≡ flatten got.0.records
  table_by_lem =
      let T : Table = flatten got.0.records in
      let sizes = got.3 in
      let numbers = part_again the_numbers _ T got.2 t₀ t₁ f.1.0 z.numbers (ap (λ (x : Sizes). x.numbers) sizes) in
      let elements = part_again the_elements _ T got.2 e₀ e₁ f.1.1.0 z.elements (ap (λ (x : Sizes). x.elements) sizes) in
      let bytes = part_again the_bytes _ T got.2 b₀ b₁ f.1.1.1 z.bytes (ap (λ (x : Sizes). x.bytes) sizes) in
      λ j. table (numbers j) (elements j) (bytes j)

  pub table-within : TableWithin z t₁ e₁ b₁
  table-within =
      let T : Table = flatten got.0.records in
      let sizes = got.3 in (
        part-within the_numbers _ T got.2 t₀ t₁ f.1.0 z.numbers (ap (λ (x : Sizes). x.numbers) sizes),
        part-within the_elements _ T got.2 e₀ e₁ f.1.1.0 z.elements (ap (λ (x : Sizes). x.elements) sizes),
        part-within the_bytes _ T got.2 b₀ b₁ f.1.1.1 z.bytes (ap (λ (x : Sizes). x.bytes) sizes),
      )

  -- A sheet that unfolds has a head: the two calls accept together.
  pub heads_too : (r : Result HeadAt Refusal) → Heads y s r → r ≡ Ok (head_at (head_in s) (tails_in s))
  unfolding headed_of
  heads_too r c =
      c ∙ ap headed_of got.1 ∙ ap Ok (sym (ap₂ head_at (head-is y s got.0 got.1) (tails_are y s got.0 got.1)))

  -- Writing the reading of an accepted sheet gives its bytes with the tails cleared and the sum to match. The sheet was unfolded and its head
  -- asked for; the writer is given that head as a caller has it (`head_by`), and of each slice as much as the reader said it wrote (`table_by`).
  pub written_again : Bytes s → (a : HeadAt) → Heads y s (Ok a) → (o out : List ℕ) (r : Result ℕ Refusal) → length s ≤ length o
      → Writes y (head_by s a) (table_by z t₁ e₁ b₁) o out r → (r ≡ Ok (length s)) × (out ≡ over (cleared s) o)
  unfolding written_of
  written_again bs a c o out r room w =
      let head : head_by s a ≡ got.0.head = head_by_lem y s a c ∙ head-is y s got.0 got.1 in
      let all : written y (head_by s a) (table_by z t₁ e₁ b₁) (length o) ≡ given (cleared s) =
      (λ j. written y (head j) (table_by_lem j) (length o)) ∙ Law.written_again y s bs got.0 got.1 (length o) room in (
        w.0 ∙ ap written_of all ∙ ap Ok (Law.same_length y s bs got.0 got.1),
        w.1 ∙ ap (λ x. lent the_sheet x o) all,
      )

  -- Where `head_of` says that all four text fields are clean, these are the sheet's bytes.
  pub clean_again : Bytes s → (a : HeadAt) → Heads y s (Ok a) → SaysClean a → (o out : List ℕ) (r : Result ℕ Refusal) → length s ≤ length o
      → Writes y (head_by s a) (table_by z t₁ e₁ b₁) o out r → (r ≡ Ok (length s)) × (out ≡ over s o)
  clean_again bs a c clean o out r room w =
      let again = written_again bs a c o out r room w in
      let tails = subst (λ x. AllClean x) (tails_are y s got.0 got.1) (tails-clean y s a c clean) in
      (again.0, again.1 ∙ ap (λ x. over x o) (Law.clean-same y s bs got.0 got.1 tails))
