-- The writer's answer, and what the lent slice holds, in each way it can go.
use mathlib.Core.Bool.{Bool, true, false, cond}
use mathlib.Core.List.{List}
use mathlib.Core.Path.{◌≡◌, refl, sym, ap, ◌∙◌, subst}
use Prim.Native.Nat.{ℕ, ◌+◌, ◌≤◌, ◌<◌}
use borrow.Author.Tests.{le-leb, lt-leb}
use lib.ListN.{length}
use lib.Seq.{sets}
use native.Mathlib.Omega.{arith}
use Rattle.fields.proofs.Laws.Chain.{refused_by}
use Rattle.fields.proofs.Laws.Put.{front_laid}
use Rattle.layout.specs.Answers.Calls.{setting_of, written, lent}
use Rattle.layout.specs.Answers.Enums.{refusal, written_of}
use Rattle.layout.specs.Bytes.{Bytes}
use Rattle.layout.specs.Fields.{limit}
use Rattle.layout.specs.Layout.Encode.{encode}
use Rattle.layout.specs.Layout.Fine.{Fine}
use Rattle.layout.specs.Shared.Tails.{AllClean}
use Rattle.layout.specs.Sheet.{Head, Sheet, Table}
use Rattle.layout.specs.Walk.{Answer, given, refused, answer, up_to}
use Rattle.layout.specs.Writing.Sheets.{table_walk}
use Rattle.layout.specs.Writing.Tables.{flatten}
use Rattle.layout.specs.Years.{is_setting}
use Rattle.layout.specs.declared.Refusal.{Refusal}
use Rattle.laws.proofs.Writing.Limits.{all_near}
use Rattle.laws.proofs.Writing.Sheets.{Typed, table-sound}
use Rattle.laws.proofs.Writing.Sizes.{encode-length}
use Rattle.writing_check.specs.declared.tables.Totals.{Totals}
use Rattle.meanings.proofs.Laws.Settings.{at_nine, unknown}
use Rattle.meanings.specs.Settings.{year_in, made}
use Rattle.meanings.specs.declared.setting.Setting.{Setting}
use Rattle.writing.specs.Ready.{totals_of, measured_of, Ready, written_at}
use Rattle.layout.specs.Answers.Lent.{the_sheet}
use Rattle.layout.specs.Refusals.{ASK, ROOM}
use Rattle.std.specs.Prelude.{Result, Ok, Err}

-- r answers a, and out is what the slice o then holds
abbrev pub Right : Answer (List ℕ) → (o out : List ℕ) → Result ℕ Refusal → Type 0
Right a o out r = (r ≡ written_of a) × (out ≡ lent the_sheet a o)

measured-given : (v : Answer Sheet) (z : Totals) → measured_of v ≡ Ok z → (u : Sheet) × (v ≡ given u) × (z ≡ totals_of u)
measured-given (given u) z e = (u, refl, cc)
measured-given (refused n p y) z e = let x : ◌≡◌ {A = ℕ} 0 1 = cc in absurd (omega arith)

measured-refused : (v : Answer Sheet) (q : Refusal) → measured_of v ≡ Err q → v ≡ refused_by q
measured-refused (given u) q e = let x : ◌≡◌ {A = ℕ} 0 1 = cc in absurd (omega arith)
measured-refused (refused n p y) q e = let i : refusal n p y ≡ q = cc in rw (← i) refl

module _ (y : ℕ) (h : Head) (t : Table) (o : List ℕ) (v : Result Totals Refusal) (means : v ≡ measured_of (answer (up_to y) (table_walk h t))) where
  abbrev all : Answer Sheet
  all = answer (up_to y) (table_walk h t)

  pub refused_right : (q : Refusal) → v ≡ Err q → Right (written_at y h t (length o)) o o (Err q)
  unfolding written_of
  refused_right q e = rw (measured-refused all q (sym means ∙ e)) (refl, refl)

  module _ (typed : Typed h) (bs : Bytes t.bytes) (z : Totals) (e : v ≡ Ok z) where
    found : (u : Sheet) × (all ≡ given u) × (z ≡ totals_of u)
    found = measured-given all z (sym means ∙ e)

    abbrev u : Sheet
    u = found.0

    sound : Fine u × AllClean u.tails × (u.head ≡ h) × (flatten u.records ≡ t)
    sound = let s = table-sound (up_to y) h t typed bs u found.1 in (s.0, s.4, s.2, s.3)

    long : length (encode u) ≡ 452 + z.length
    long =
        let n = encode-length u sound.0.head sound.0.tails (all_near u.records sound.0.records) in
        omega (arith, n, ap (λ (x : Totals). x.length) found.2)

    pub within : 452 + z.length ≤ limit
    within = omega (arith, long, sound.0.short)

    pub ready : 452 + z.length ≤ length o → Ready h t z (length o)
    ready room = record {
      sheet = u;
      fine = sound.0;
      clean = sound.1;
      head = sound.2;
      records = sound.3;
      totals = found.2;
      room = omega (arith, long, room);
    }

    pub short_right : length o < 452 + z.length → Right (written_at y h t (length o)) o o (Err (refusal ROOM 0 0))
    unfolding written_of
    short_right less = rw (found.1, lt-leb (length (encode u)) (length o) (omega (arith, long, less))) (refl, refl)

    pub written_right : (out : List ℕ) → 452 + z.length ≤ length o
        → ((w : Sheet) → Fine w → AllClean w.tails → w.head ≡ h → flatten w.records ≡ t → out ≡ sets o 0 (encode w))
        → Right (written_at y h t (length o)) o out (Ok (452 + z.length))
    unfolding written_of
    written_right out room holds =
        let laid = holds u sound.0 sound.1 sound.2 sound.3 ∙ front_laid (encode u) o (omega (arith, long, room)) in
        rw (found.1, le-leb (length (encode u)) (length o) (omega (arith, long, room))) (ap Ok (sym long), laid)

-- at a setting
pub at_setting : (k : Setting) (h : Head) (t : Table) (room : ℕ) → written k.year h t room ≡ written_at k.year h t room
unfolding written
at_setting k h t room = at_nine k (written_at k.year h t room)

-- at a year that is none
pub not_written : (y : ℕ) (m : Result Setting Refusal) (q : Refusal) → year_in m ≡ made y → m ≡ Err q → (h : Head) (t : Table) (o : List ℕ)
    → Right (written y h t (length o)) o o (Err q)
unfolding written written_of
not_written y m q e f h t o = rw (unknown y m q e f (written_at y h t (length o))) (refl, refl)
