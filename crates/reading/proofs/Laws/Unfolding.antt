-- Unfolding a sheet: the answer, and what the three slices hold, in each way it can go.
use Prim.Native.Nat.{ℕ, ◌≤◌, ◌<◌}
use Rattle.reading_fill.proofs.Laws.Laid.{Laid, filled_laid}
use Rattle.reading_fill.proofs.Laws.Sheets.{sheet-records}
use Rattle.reading_fill.specs.Sheets.{sheet_records, Accepted, Filled}
use Rattle.layout.specs.Answers.Calls.{in_rooms, and_then, reading, roomy, unfolded, lent}
use Rattle.layout.specs.Answers.Enums.{checked_of, sizes_of, refusal}
use Rattle.layout.specs.Refusals.{ROOM}
use Rattle.layout.specs.Sheet.{Sheet, Table}
use Rattle.layout.specs.Walk.{Answer, given, refused}
use Rattle.layout.specs.Writing.Tables.{flatten}
use Rattle.layout.specs.declared.Refusal.{Refusal}
use Rattle.layout.specs.declared.Sizes.{Sizes}
use Rattle.layout.specs.Answers.Lent.{rooms, the_numbers, the_elements, the_bytes}
use Rattle.reading.proofs.Laws.Seen.{Seen, refused-is}
use borrow.Author.Tests.{le-leb, lt-leb}
use lib.Dec.{leb}
use lib.ListN.{length}
use mathlib.Core.Bool.{true, false}
use mathlib.Core.List.{List}
use mathlib.Core.Path.{◌≡◌, refl, sym, ap}
use native.Mathlib.Omega.{arith}
use Rattle.std.specs.Prelude.{Result, Ok, Err}

-- what `unfold` ensures, where a is the sheet's own answer: r answers, and t₁, e₁, b₁ are what the slices hold at the end
abbrev pub Right : Answer Sheet → (t₀ e₀ b₀ t₁ e₁ b₁ : List ℕ) → Result Sizes Refusal → Type 0
Right a t₀ e₀ b₀ t₁ e₁ b₁ r =
    let u : Answer Table = and_then a (λ t. in_rooms (rooms t₀ e₀ b₀) (flatten t.records)) in
    (r ≡ checked_of (and_then a (λ t. and_then (in_rooms (rooms t₀ e₀ b₀) (flatten t.records)) (λ _. given t))))
    × ((t₁ ≡ lent the_numbers u t₀) × ((e₁ ≡ lent the_elements u e₀) × (b₁ ≡ lent the_bytes u b₀)))

abbrev pub Unfolded : ℕ → (s t₀ e₀ b₀ t₁ e₁ b₁ : List ℕ) → Result Sizes Refusal → Type 0
Unfolded y s t₀ e₀ b₀ t₁ e₁ b₁ r =
    let u : Answer Table = unfolded y s (rooms t₀ e₀ b₀) in
    (r ≡ checked_of (roomy y s (rooms t₀ e₀ b₀))) × ((t₁ ≡ lent the_numbers u t₀) × ((e₁ ≡ lent the_elements u e₀) × (b₁ ≡ lent the_bytes u b₀)))

right : (y : ℕ) (s t₀ e₀ b₀ t₁ e₁ b₁ : List ℕ) (r : Result Sizes Refusal) → Right (reading y s) t₀ e₀ b₀ t₁ e₁ b₁ r → Unfolded y s t₀ e₀ b₀ t₁ e₁ b₁ r
unfolding roomy unfolded
right y s t₀ e₀ b₀ t₁ e₁ b₁ r h = h

-- the sheet's own refusal
by_refused : (a : Answer Sheet) (t₀ e₀ b₀ : List ℕ) (q : Refusal) → a ≡ refused q.reason q.place q.year → Right a t₀ e₀ b₀ t₀ e₀ b₀ (Err q)
unfolding checked_of
by_refused a t₀ e₀ b₀ q e = rw e (refl, (refl, (refl, refl)))

pub refused_read : (y : ℕ) (s t₀ e₀ b₀ : List ℕ) (q : Refusal) → reading y s ≡ refused q.reason q.place q.year → Unfolded y s t₀ e₀ b₀ t₀ e₀ b₀ (Err q)
refused_read y s t₀ e₀ b₀ q e = right y s t₀ e₀ b₀ t₀ e₀ b₀ (Err q) (by_refused (reading y s) t₀ e₀ b₀ q e)

pub refused_right : (y : ℕ) (s t₀ e₀ b₀ : List ℕ) (q : Refusal) (r : Result Sizes Refusal) → r ≡ checked_of (reading y s) → r ≡ Err q
    → Unfolded y s t₀ e₀ b₀ t₀ e₀ b₀ (Err q)
refused_right y s t₀ e₀ b₀ q r e a = refused_read y s t₀ e₀ b₀ q (refused-is y s q r e a)

-- a slice that is too small
by_room : (a : Answer Sheet) (t₀ e₀ b₀ : List ℕ) (t : Sheet) (place : ℕ) → a ≡ given t
    → in_rooms (rooms t₀ e₀ b₀) (flatten t.records) ≡ refused ROOM place 0 → Right a t₀ e₀ b₀ t₀ e₀ b₀ (Err (refusal ROOM place 0))
unfolding checked_of
by_room a t₀ e₀ b₀ t place e i = rw (e, i) (refl, (refl, (refl, refl)))

-- all of it fits, and is written
by_filled : (a : Answer Sheet) (t₀ e₀ b₀ t₁ e₁ b₁ : List ℕ) (t : Sheet) (z : Sizes) → a ≡ given t → z ≡ sizes_of t
    → in_rooms (rooms t₀ e₀ b₀) (flatten t.records) ≡ given (flatten t.records) → Laid (flatten t.records) t₀ e₀ b₀ t₁ e₁ b₁
    → Right a t₀ e₀ b₀ t₁ e₁ b₁ (Ok z)
unfolding checked_of
by_filled a t₀ e₀ b₀ t₁ e₁ b₁ t z e q i k = rw (e, i) (ap Ok q, (k.numbers, (k.elements, k.bytes)))

module _ (y : ℕ) (s t₀ e₀ b₀ : List ℕ) (z : Sizes) (a : Seen y s z) where
  abbrev u : Table
  u = flatten a.sheet.records

  no_room : (place : ℕ) → in_rooms (rooms t₀ e₀ b₀) u ≡ refused ROOM place 0 → Unfolded y s t₀ e₀ b₀ t₀ e₀ b₀ (Err (refusal ROOM place 0))
  no_room place i = right y s t₀ e₀ b₀ t₀ e₀ b₀ _ (by_room (reading y s) t₀ e₀ b₀ a.sheet place a.is i)

  numbers-is : length u.numbers ≡ z.numbers
  numbers-is = ap (λ (x : Sizes). x.numbers) (sym a.sizes)

  elements-is : length u.elements ≡ z.elements
  elements-is = ap (λ (x : Sizes). x.elements) (sym a.sizes)

  bytes-is : length u.bytes ≡ z.bytes
  bytes-is = ap (λ (x : Sizes). x.bytes) (sym a.sizes)

  pub short_1 : length t₀ < z.numbers → Unfolded y s t₀ e₀ b₀ t₀ e₀ b₀ (Err (refusal ROOM 1 0))
  short_1 h = no_room 1
      (let n : leb (length u.numbers) (length t₀) ≡ false = lt-leb (length u.numbers) (length t₀) (omega (arith, numbers-is, h)) in rw n refl)

  pub short_2 : z.numbers ≤ length t₀ → length e₀ < z.elements → Unfolded y s t₀ e₀ b₀ t₀ e₀ b₀ (Err (refusal ROOM 2 0))
  short_2 g h =
      let m : leb (length u.numbers) (length t₀) ≡ true = le-leb (length u.numbers) (length t₀) (omega (arith, numbers-is, g)) in
      let n : leb (length u.elements) (length e₀) ≡ false = lt-leb (length u.elements) (length e₀) (omega (arith, elements-is, h)) in
      no_room 2 (rw (m, n) refl)

  pub short_3 : z.numbers ≤ length t₀ → z.elements ≤ length e₀ → length b₀ < z.bytes → Unfolded y s t₀ e₀ b₀ t₀ e₀ b₀ (Err (refusal ROOM 3 0))
  short_3 f g h =
      let l : leb (length u.numbers) (length t₀) ≡ true = le-leb (length u.numbers) (length t₀) (omega (arith, numbers-is, f)) in
      let m : leb (length u.elements) (length e₀) ≡ true = le-leb (length u.elements) (length e₀) (omega (arith, elements-is, g)) in
      let n : leb (length u.bytes) (length b₀) ≡ false = lt-leb (length u.bytes) (length b₀) (omega (arith, bytes-is, h)) in
      no_room 3 (rw (l, m, n) refl)

  module _ (f : z.numbers ≤ length t₀) (g : z.elements ≤ length e₀) (h : z.bytes ≤ length b₀) where
    pub fits : Accepted s (length t₀) (length e₀) (length b₀)
    fits =
        record {
          sheet = a.sheet;
          read = a.read;
          numbers = omega (arith, numbers-is, f);
          elements = omega (arith, elements-is, g);
          bytes = omega (arith, bytes-is, h);
        }

    all_fit : in_rooms (rooms t₀ e₀ b₀) u ≡ given u
    all_fit =
        let l : leb (length u.numbers) (length t₀) ≡ true = le-leb (length u.numbers) (length t₀) (omega (arith, numbers-is, f)) in
        let m : leb (length u.elements) (length e₀) ≡ true = le-leb (length u.elements) (length e₀) (omega (arith, elements-is, g)) in
        let n : leb (length u.bytes) (length b₀) ≡ true = le-leb (length u.bytes) (length b₀) (omega (arith, bytes-is, h)) in
        rw (l, m, n) refl

    pub filled_right : (t₁ e₁ b₁ : List ℕ) → Filled (flatten (sheet_records s)) t₀ e₀ b₀ t₁ e₁ b₁ → Unfolded y s t₀ e₀ b₀ t₁ e₁ b₁ (Ok z)
    filled_right t₁ e₁ b₁ w =
        let same : sheet_records s ≡ a.sheet.records = sym (sheet-records s a.sheet a.read) in
        let k : Laid u t₀ e₀ b₀ t₁ e₁ b₁ = rw same at (filled_laid s t₀ e₀ b₀ t₁ e₁ b₁ fits w) in
        right y s t₀ e₀ b₀ t₁ e₁ b₁ (Ok z) (by_filled (reading y s) t₀ e₀ b₀ t₁ e₁ b₁ a.sheet z a.is a.sizes all_fit k)
