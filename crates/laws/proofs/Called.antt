-- The calls that read and write, at a setting: what they give, and when.
use mathlib.Core.Bool.{true}
use mathlib.Core.List.{List}
use mathlib.Core.Path.{◌≡◌, refl, ap, subst}
use Prim.Native.Nat.{ℕ, ◌≤◌}
use borrow.Author.Tests.{leb-true, le-leb}
use lib.Dec.{leb}
use lib.ListN.{length}
use Rattle.layout.specs.Answers.Calls.{reading, written}
use Rattle.layout.specs.Bytes.{All, Bytes}
use Rattle.layout.specs.Fields.{limit}
use Rattle.layout.specs.Layout.Encode.{encode}
use Rattle.layout.specs.Layout.Fine.{Fine}
use Rattle.layout.specs.Layout.Uses.{years}
use Rattle.layout.specs.Reading.Sheets.{sheet_walk}
use Rattle.layout.specs.Shared.Tails.{AllClean}
use Rattle.layout.specs.Sheet.{Head, Sheet, Table}
use Rattle.layout.specs.Walk.{given, answer, up_to}
use Rattle.layout.specs.Writing.Sheets.{table_walk}
use Rattle.layout.specs.Writing.Tables.{flatten}
use Rattle.layout.specs.Years.{is_setting}
use Rattle.laws.proofs.Base.Walks.{given_inj, cond_back, allowed-up_to, then_back}
use Rattle.laws.proofs.Encoding.Plain.{encode-bytes, pool_bytes}
use Rattle.laws.proofs.Exact.{table}
use Rattle.laws.proofs.Reading.Sheets.{sheet-sound, sheet-complete}
use Rattle.laws.proofs.Writing.Sheets.{Typed, fine_typed, table_at}

-- s is read as the sheet u at a setting
pub record WasRead (year : ℕ) (s : List ℕ) (u : Sheet) : Type 0 where
  pub setting : is_setting year ≡ true
  pub fine : Fine u
  pub old : All (λ z. z ≤ year) (years u)
  pub is : encode u ≡ s

pub reading-sound : (year : ℕ) (s : List ℕ) (u : Sheet) → Bytes s → reading year s ≡ given u → WasRead year s u
unfolding reading
reading-sound year s u bs e =
    let at = cond_back (is_setting year) _ _ _ _ u e in
    let r = sheet-sound (up_to year) s bs u at.1 in
    record { setting = at.0; fine = r.0; old = (allowed-up_to year (years u)).0 r.1; is = r.2 }

pub reading-complete : (year : ℕ) (s : List ℕ) (u : Sheet) → WasRead year s u → reading year s ≡ given u
unfolding reading
reading-complete year s u r =
    let given-u = sheet-complete (up_to year) u r.fine ((allowed-up_to year (years u)).1 r.old) in
    rw r.setting (subst (λ x. answer (up_to year) (sheet_walk x) ≡ given u) r.is given-u)

-- two fine and clean sheets with one head and one table are one
pub table_once : (u v : Sheet) → Fine u → Fine v → AllClean u.tails → AllClean v.tails → u.head ≡ v.head
    → flatten u.records ≡ flatten v.records → u ≡ v
table_once u v f g c d h t =
    let only = table v.head (flatten v.records) (fine_typed v.head g.head) (pool_bytes v g) in
    let a = (only u).1 (f, h, t, c) in
    let b = (only v).1 (g, refl, refl, d) in
    cc

-- s was written of the sheet u, whose head and table are h and t, at a setting and within a room
pub record Wrote (year : ℕ) (h : Head) (t : Table) (room : ℕ) (s : List ℕ) (u : Sheet) : Type 0 where
  pub setting : is_setting year ≡ true
  pub fine : Fine u
  pub old : All (λ z. z ≤ year) (years u)
  pub head : u.head ≡ h
  pub records : flatten u.records ≡ t
  pub clean : AllClean u.tails
  pub is : encode u ≡ s
  pub fits : length s ≤ room

module _ (year : ℕ) (h : Head) (t : Table) (room : ℕ) (s : List ℕ) where
  pub written-sound : Typed h → Bytes t.bytes → written year h t room ≡ given s → (u : Sheet) × Wrote year h t room s u
  unfolding written
  written-sound ty bs e =
      let at = cond_back (is_setting year) _ _ _ _ s e in
      let a = then_back (answer (up_to year) (table_walk h t)) _ s at.1 in
      let u = a.0 in
      let r = (table_at (up_to year) h t ty bs u).0 a.1 in
      let fit = cond_back (leb (length (encode u)) room) _ _ _ _ s a.2 in
      let is : encode u ≡ s = given_inj fit.1 in (
        u,
        record {
          setting = at.0;
          fine = r.0;
          old = (allowed-up_to year (years u)).0 r.1;
          head = r.2;
          records = r.3;
          clean = r.4;
          is = is;
          fits = subst (λ x. length x ≤ room) is (leb-true _ _ fit.0);
        },
      )

  pub written-complete : Typed h → Bytes t.bytes → (u : Sheet) → Wrote year h t room s u → written year h t room ≡ given s
  unfolding written
  written-complete ty bs u w =
      let given-u = (table_at (up_to year) h t ty bs u).1 (w.fine, (allowed-up_to year (years u)).1 w.old, w.head, w.records, w.clean) in
      let fits : leb (length (encode u)) room ≡ true = rw w.is (le-leb _ _ w.fits) in
      rw (w.setting, given-u, fits) (ap given w.is)

  -- what is written is bytes, within the limit
  pub written-bytes : Typed h → Bytes t.bytes → written year h t room ≡ given s → Bytes s × (length s ≤ limit)
  written-bytes ty bs e =
      let w = written-sound ty bs e in
      subst (λ x. Bytes x × (length x ≤ limit)) w.1.is (encode-bytes w.0 w.1.fine, w.1.fine.short)
