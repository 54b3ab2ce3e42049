-- A whole sheet in pass 2: what its filler asks and has done, and what the slices then hold.
use mathlib.Core.List.{List, ◌++◌}
use mathlib.Core.Path.{◌≡◌, sym, ap, ◌∙◌}
use Prim.Native.Nat.{ℕ, ◌≤◌}
use lib.ListN.{length, drop}
use native.Mathlib.Omega.{arith}
use Rattle.reading_fill.specs.Cursors.{Fills}
use Rattle.reading_fill.specs.declared.filler.Filler.{Filler}
use Rattle.fields.specs.Cursors.{Room}
use Rattle.reading_fill.specs.Pieces.{times_in, times_size, Each}
use Rattle.reading_fill.specs.Records.{record_in, record_size, RecordFits}
use Rattle.reading_fill.specs.Sheets.{sheet_records, Accepted, Filled}
use Rattle.fields.specs.declared.cursors.Cursor.{Cursor}
use Rattle.layout.specs.Bytes.{number}
use Rattle.layout.specs.Reading.Sheets.{sheet_walk}
use Rattle.layout.specs.Sheet.{Table}
use Rattle.layout.specs.Walk.{always}
use Rattle.layout.specs.Writing.Tables.{joined, flatten_record, flatten}
use Rattle.laws.proofs.Base.Walks.{outcome-is}
use Rattle.fields.proofs.Laws.Put.{front_laid}
use Rattle.reading_fill.proofs.Laws.Sheets.{Read, sheet-value}

-- past passport and descriptor, with nothing written yet
abbrev pub first : Cursor
first = record { place = 452; numbers = 0; elements = 0; bytes = 0 }

module _ (s : List ℕ) (tl el bl : ℕ) (a : Accepted s tl el bl) where
  seen : Read always s a.sheet
  seen = sheet-value always s a.sheet ((outcome-is (sheet_walk s) a.sheet).0 a.read)

  pub sheet-long : 452 ≤ length s
  sheet-long = seen.long

  pub sheet_asks : (n : ℕ) → n ≡ number 4 (drop 440 s)
      → Room (record { place = 452; numbers = 0; elements = 0; bytes = 0 }) (times_size record_size n (drop 452 s))
      (joined flatten_record (times_in record_in record_size n (drop 452 s))) (length s) tl el bl
      × Each RecordFits record_size n (drop 452 s)
  unfolding flatten sheet_records
  sheet_asks n e =
      let same : flatten a.sheet.records ≡ flatten (sheet_records s) = ap flatten seen.records in
      rw e (
        record {
          place = seen.size;
          numbers = omega (arith, a.numbers, ap (λ (t : Table). length t.numbers) same);
          elements = omega (arith, a.elements, ap (λ (t : Table). length t.elements) same);
          bytes = omega (arith, a.bytes, ap (λ (t : Table). length t.bytes) same);
        },
        seen.each,
      )

  -- the three lists are as long as the slices at most
  pub lists_fit : (length (flatten (sheet_records s)).numbers ≤ tl) × (length (flatten (sheet_records s)).elements ≤ el)
      × (length (flatten (sheet_records s)).bytes ≤ bl)
  lists_fit = rw (← seen.records) (a.numbers, a.elements, a.bytes)

-- t, e and b are what the slices are left with
pub sheet-filled : (s : List ℕ) (n : ℕ) → n ≡ number 4 (drop 440 s) → (f g : Filler)
    → Fills (record { place = 452; numbers = 0; elements = 0; bytes = 0 }) (joined flatten_record (times_in record_in record_size n (drop 452 s))) f g
    → (t e b : List ℕ) → g.numbers.now ≡ t → g.elements.now ≡ e → g.bytes.now ≡ b
    → Filled (flatten (sheet_records s)) f.numbers.now f.elements.now f.bytes.now t e b
unfolding flatten sheet_records
sheet-filled s n is f g w t e b ht he hb =
    rw (← is) (record { numbers = sym ht ∙ w.numbers; elements = sym he ∙ w.elements; bytes = sym hb ∙ w.bytes })

-- so a slice that was filled holds its list, and after it what it held
pub record Laid (t : Table) (t₀ e₀ b₀ t₁ e₁ b₁ : List ℕ) : Type 0 where
  pub numbers : t₁ ≡ t.numbers ++ drop (length t.numbers) t₀
  pub elements : e₁ ≡ t.elements ++ drop (length t.elements) e₀
  pub bytes : b₁ ≡ t.bytes ++ drop (length t.bytes) b₀

pub filled_laid : (s t₀ e₀ b₀ t₁ e₁ b₁ : List ℕ) → Accepted s (length t₀) (length e₀) (length b₀) → Filled (flatten (sheet_records s)) t₀ e₀ b₀ t₁ e₁ b₁
    → Laid (flatten (sheet_records s)) t₀ e₀ b₀ t₁ e₁ b₁
filled_laid s t₀ e₀ b₀ t₁ e₁ b₁ a f =
    let T = flatten (sheet_records s) in
    let fit = lists_fit s (length t₀) (length e₀) (length b₀) a in
    record {
      numbers = f.numbers ∙ front_laid T.numbers t₀ fit.0;
      elements = f.elements ∙ front_laid T.elements e₀ fit.1;
      bytes = f.bytes ∙ front_laid T.bytes b₀ fit.2;
    }
