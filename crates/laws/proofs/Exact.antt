-- A sheet is accepted exactly when it keeps the layout, and is read as the layout says. (Demand 2: "The 2017 reader accepts a sheet
-- exactly when it keeps the layout of document 01, and reads it as that layout says.")
use mathlib.Core.List.{List}
use mathlib.Core.Logic.{◌↔◌}
use mathlib.Core.Path.{◌≡◌, sym, ◌∙◌}
use Prim.Native.Nat.{ℕ}
use Rattle.layout.specs.Answers.Calls.{reading}
use Rattle.layout.specs.Bytes.{Bytes}
use Rattle.layout.specs.Layout.Encode.{encode}
use Rattle.layout.specs.Layout.Fine.{Fine}
use Rattle.layout.specs.Layout.Uses.{years}
use Rattle.layout.specs.Reading.Sheets.{head_in, tails_in, sheet_walk}
use Rattle.layout.specs.Shared.Tails.{AllClean}
use Rattle.layout.specs.Sheet.{Head, Sheet, Table}
use Rattle.layout.specs.Walk.{outcome, ends, given, always}
use Rattle.layout.specs.Writing.Sheets.{table_walk}
use Rattle.layout.specs.Writing.Tables.{flatten}
use Rattle.laws.proofs.Base.Readers.{law_exact, law_read, law_once}
use Rattle.laws.proofs.Base.Walks.{allowed-always, outcome-is}
use Rattle.laws.proofs.Reading.Sheets.{sheet_law, sheet-ends}
use Rattle.laws.proofs.Writing.Sheets.{Typed, table_at}
use Rattle.laws.proofs.Years.Own.{own_newest}
use Rattle.laws.proofs.Years.Reading.{own_sheet}

-- For every list of bytes s and every sheet t: the 2017 walk of s ends in t exactly when t, with the tails of its texts, is fine and is
-- written so.
pub exact : (s : List ℕ) → Bytes s → (t : Sheet) → (outcome (sheet_walk s) ≡ ends t) ↔ (Fine t × (encode t ≡ s))
exact = law_exact sheet_walk encode Fine years sheet_law

-- The tails are what was read past: what stands in the text fields after their first zero.
pub read_past : (s : List ℕ) (t : Sheet) → outcome (sheet_walk s) ≡ ends t → (t.head ≡ head_in s) × (t.tails ≡ tails_in s)
read_past s t e = let r = sheet-ends always s t ((outcome-is (sheet_walk s) t).0 e) in (r.0, r.2)

-- The same of the 2017 reader as it is called: it gives t exactly when t is fine and is written so.
pub exact_reading : (s : List ℕ) → Bytes s → (t : Sheet) → (reading 2017 s ≡ given t) ↔ (Fine t × (encode t ≡ s))
unfolding reading
exact_reading s bs t =
    let all = own_newest (sheet_walk s) (own_sheet s) in
    let same = outcome-is (sheet_walk s) t in
    let e = exact s bs t in
    (λ g. e.0 (same.1 (sym all ∙ g)), λ f. all ∙ same.0 (e.1 f))

-- s keeps the layout: it is some fine sheet, written so
abbrev pub Keeps : List ℕ → Type 0
Keeps s = (t : Sheet) × Fine t × (encode t ≡ s)

-- The 2017 reader gives some sheet exactly when s keeps the layout.
pub exact_accepted : (s : List ℕ) → Bytes s → ((t : Sheet) × (reading 2017 s ≡ given t)) ↔ Keeps s
exact_accepted s bs = (
  λ g. let f = (exact_reading s bs g.0).0 g.1 in (g.0, f.0, f.1),
  λ f. (f.0, (exact_reading s bs f.0).1 (f.1, f.2)),
)

-- Reading the encoding of a fine sheet gives that sheet.
pub read_encoded : (t : Sheet) → Fine t → outcome (sheet_walk (encode t)) ≡ ends t
read_encoded = law_read sheet_walk encode Fine years sheet_law

-- Encoding the reading of an accepted sheet gives its bytes.
pub encoded_read : (s : List ℕ) → Bytes s → (t : Sheet) → outcome (sheet_walk s) ≡ ends t → encode t ≡ s
encoded_read s b t e = ((exact s b t).0 e).1

-- An accepted sheet has one reading, and one sheet is written in one way only.
pub one-reading : (s : List ℕ) (t u : Sheet) → outcome (sheet_walk s) ≡ ends t → outcome (sheet_walk s) ≡ ends u → t ≡ u
one-reading s t u e g = cc

pub one-sheet : (t u : Sheet) → Fine t → Fine u → encode t ≡ encode u → t ≡ u
one-sheet = law_once sheet_walk encode Fine years sheet_law

pub one_form : (s r : List ℕ) → Bytes s → Bytes r → (t : Sheet) → outcome (sheet_walk s) ≡ ends t → outcome (sheet_walk r) ≡ ends t → s ≡ r
one_form s r bs br t e g = sym (encoded_read s bs t e) ∙ encoded_read r br t g

-- The writer's walk of a head and a table ends in u exactly when u is fine and clean, its head is that head, and its records flatten to
-- that table.
pub table : (h : Head) (t : Table) → Typed h → Bytes t.bytes → (u : Sheet)
    → (outcome (table_walk h t) ≡ ends u) ↔ (Fine u × (u.head ≡ h) × (flatten u.records ≡ t) × AllClean u.tails)
table h t ty bs u =
    let same = outcome-is (table_walk h t) u in
    let at = table_at always h t ty bs u in (
      λ e. let s = at.0 (same.0 e) in (s.0, s.2, s.3, s.4),
      λ f. same.1 (at.1 (f.0, allowed-always (years u), f.1, f.2, f.3)),
    )
