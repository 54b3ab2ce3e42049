-- The round trips, at one and the same setting, and what is written for one year at every later one. (Demand 2, as 02, 6 has it: "writing
-- the reading of an accepted sheet gives its bytes with those tails cleared and the sum to match"; "reading a written sheet gives back the
-- table. No text is ever shortened." Demand 3: "What the writer makes for a year reads the same at it and at every later year.")
use mathlib.Core.Bool.{true, false}
use mathlib.Core.List.{List, [], ◌∷◌}
use mathlib.Core.Logic.{◌↔◌}
use mathlib.Core.Path.{◌≡◌, refl, ap, sym, ◌∙◌, subst}
use Prim.Native.Nat.{ℕ, ◌≤◌}
use borrow.Author.Tests.{le-leb}
use lib.ListN.{length}
use native.Mathlib.Omega.{arith}
use Rattle.layout.specs.Answers.Calls.{and_then, reading, Rooms, in_rooms, unfolded, in_room, written}
use Rattle.layout.specs.Bytes.{All, Bytes}
use Rattle.layout.specs.Fields.Descriptor
use Rattle.layout.specs.Fields.Passport
use Rattle.layout.specs.Layout.Cleared.{cleared}
use Rattle.layout.specs.Layout.Encode.{encode}
use Rattle.layout.specs.Layout.Fine.{FineHead}
use Rattle.layout.specs.Layout.Uses.{years}
use Rattle.layout.specs.Refusals.{TEXT}
use Rattle.layout.specs.Shared.Carried.{rest_checks}
use Rattle.layout.specs.Shared.Tails.{AllClean, clean_of}
use Rattle.layout.specs.Shared.Texts.{is_text}
use Rattle.layout.specs.Sheet.{Head, Sheet, Table}
use Rattle.layout.specs.Walk.{given, refused, answer, up_to, checks}
use Rattle.layout.specs.Writing.Sheets.{title_rules, head_walk, table_walk}
use Rattle.layout.specs.Writing.Tables.{flatten}
use Rattle.layout.specs.Years.{is_setting}
use Rattle.laws.proofs.Base.Walks.{given_inj, bind_on, bind_refused}
use Rattle.laws.proofs.Called.{WasRead, reading-sound, reading-complete, Wrote, written-sound, written-complete}
use Rattle.laws.proofs.Cleared.{cleared-is, cleared-fine, cleared-old, cleared-length, cleared-clean}
use Rattle.laws.proofs.Encoding.Plain.{encode-bytes, pool_bytes}
use Rattle.laws.proofs.Encoding.Tails.{all-clean, clean_is}
use Rattle.laws.proofs.Writing.Sheets.{Typed, fine_typed, text_on}

-- A sheet that was read stays one when it is cleared.
cleared-read : (year : ℕ) (s : List ℕ) (u : Sheet) → WasRead year s u → WasRead year (cleared s) (clean_of u)
cleared-read year s u r = record {
  setting = r.setting;
  fine = cleared-fine u r.fine;
  old = (cleared-old u year).0 r.old;
  is = sym (cleared-is u r.fine) ∙ ap cleared r.is;
}

-- Its length stays.
pub same_length : (year : ℕ) (s : List ℕ) → Bytes s → (u : Sheet) → reading year s ≡ given u → length (cleared s) ≡ length s
same_length year s bs u e =
    let r = reading-sound year s u bs e in
    subst (λ x. length (cleared x) ≡ length x) r.is (cleared-length u r.fine)

-- With room enough and one year for both, writing the reading of an accepted sheet gives its bytes with the tails cleared and the sum to
-- match.
pub written_again : (year : ℕ) (s : List ℕ) → Bytes s → (u : Sheet) → reading year s ≡ given u
    → (room : ℕ) → length s ≤ room → written year u.head (flatten u.records) room ≡ given (cleared s)
written_again year s bs u e room enough =
    let r = reading-sound year s u bs e in
    let w = cleared-read year s u r in
    written-complete year u.head (flatten u.records) room (cleared s) (fine_typed u.head r.fine.head) (pool_bytes u r.fine) (clean_of u)
    (record {
      setting = w.setting;
      fine = w.fine;
      old = w.old;
      head = refl;
      records = refl;
      clean = all-clean u.head;
      is = w.is;
      fits = omega (arith, same_length year s bs u e, enough);
    })

-- Where all four text fields are clean that is the sheet itself,
pub clean-same : (year : ℕ) (s : List ℕ) → Bytes s → (u : Sheet) → reading year s ≡ given u → AllClean u.tails → cleared s ≡ s
clean-same year s bs u e clean =
    let r = reading-sound year s u bs e in
    subst (λ x. cleared x ≡ x) r.is (cleared-clean u r.fine clean)

-- so there writing the reading gives the bytes again.
pub clean_again : (year : ℕ) (s : List ℕ) → Bytes s → (u : Sheet) → reading year s ≡ given u → AllClean u.tails
    → (room : ℕ) → length s ≤ room → written year u.head (flatten u.records) room ≡ given s
clean_again year s bs u e clean room enough =
    written_again year s bs u e room enough ∙ ap given (clean-same year s bs u e clean)

pub cleared-bytes : (year : ℕ) (s : List ℕ) → Bytes s → (u : Sheet) → reading year s ≡ given u → Bytes (cleared s)
cleared-bytes year s bs u e =
    let w = cleared-read year s u (reading-sound year s u bs e) in
    subst (λ x. Bytes x) w.is (encode-bytes (clean_of u) w.fine)

-- The cleared sheet is accepted at the settings at which the sheet is, and reads the same, all clean.
pub cleared-reads : (year : ℕ) (s : List ℕ) → Bytes s → (u : Sheet) → reading year s ≡ given u
    → (z : ℕ) → (reading z s ≡ given u) ↔ (reading z (cleared s) ≡ given (clean_of u))
cleared-reads year s bs u e z =
    let r = reading-sound year s u bs e in
    let bytes = cleared-bytes year s bs u e in (
      λ g. reading-complete z (cleared s) (clean_of u) (cleared-read z s u (reading-sound z s u bs g)),
      λ g. let c = reading-sound z (cleared s) (clean_of u) bytes g in
          reading-complete z s u (record { setting = c.setting; fine = r.fine; old = (cleared-old u z).1 c.old; is = r.is }),
    )

older : (y z : ℕ) → y ≤ z → (l : List ℕ) → All (λ k. k ≤ y) l → All (λ k. k ≤ z) l
older y z h [] f = tt
older y z h (k ∷ l) f = (omega (arith, h, f.0), older y z h l f.1)

-- the sheet that was written, read at its year or at a later one
read-wrote : (year : ℕ) (h : Head) (t : Table) (room : ℕ) (s : List ℕ) (u : Sheet) → Wrote year h t room s u
    → (z : ℕ) → is_setting z ≡ true → year ≤ z → reading z s ≡ given u
read-wrote year h t room s u w z ok after =
    reading-complete z s u (record { setting = ok; fine = w.fine; old = older year z after (years u) w.old; is = w.is })

-- Reading a written sheet gives back the head and the table it was written from.
pub read_again : (year : ℕ) (h : Head) (t : Table) (room : ℕ) (s : List ℕ) → Typed h → Bytes t.bytes → written year h t room ≡ given s
    → (u : Sheet) × (reading year s ≡ given u) × (u.head ≡ h) × (flatten u.records ≡ t)
read_again year h t room s typed bs e =
    let w = written-sound year h t room s typed bs e in
    (w.0, read-wrote year h t room s w.0 w.1 year w.1.setting (omega arith), w.1.head, w.1.records)

-- It is clean: its tails are the zeros that the writer makes.
pub written-clean : (year : ℕ) (h : Head) (t : Table) (room : ℕ) (s : List ℕ) → Typed h → Bytes t.bytes → written year h t room ≡ given s
    → (u : Sheet) → reading year s ≡ given u → u ≡ clean_of u
written-clean year h t room s typed bs e u g =
    let w = written-sound year h t room s typed bs e in
    let same : w.0 ≡ u = given_inj (sym (read-wrote year h t room s w.0 w.1 year w.1.setting (omega arith)) ∙ g) in
    subst (λ v. v ≡ clean_of v) same (clean_is w.0 w.1.fine w.1.clean)

-- Unfolding it, where each room is enough, gives that very table.
pub unfolded_again : (year : ℕ) (h : Head) (t : Table) (room : ℕ) (s : List ℕ) → Typed h → Bytes t.bytes → written year h t room ≡ given s
    → (rooms : Rooms) → length t.numbers ≤ rooms.numbers → length t.elements ≤ rooms.elements → length t.bytes ≤ rooms.bytes
    → unfolded year s rooms ≡ given t
unfolding unfolded
unfolded_again year h t room s typed bs e rooms n k m =
    let r = read_again year h t room s typed bs e in
    ap (λ a. and_then a (λ u. in_rooms rooms (flatten u.records))) r.1
    ∙ ap (in_rooms rooms) r.3
    ∙ rw (le-leb _ _ n, le-leb _ _ k, le-leb _ _ m)

-- What the writer makes for one year reads the same at that year and at every later one.
pub later : (year : ℕ) (h : Head) (t : Table) (room : ℕ) (s : List ℕ) → Typed h → Bytes t.bytes → written year h t room ≡ given s
    → (z : ℕ) → is_setting z ≡ true → year ≤ z → reading z s ≡ reading year s
later year h t room s typed bs e z ok after =
    let w = written-sound year h t room s typed bs e in
    read-wrote year h t room s w.0 w.1 z ok after ∙ sym (read-wrote year h t room s w.0 w.1 year w.1.setting (omega arith))

-- No text is ever shortened: the texts that the writer takes are read back byte for byte,
pub texts_kept : (year : ℕ) (h : Head) (t : Table) (room : ℕ) (s : List ℕ) → Typed h → Bytes t.bytes → written year h t room ≡ given s
    → (u : Sheet) × (reading year s ≡ given u) × (u.head.date ≡ h.date) × (u.head.designation ≡ h.designation)
    × (u.head.title ≡ h.title) × (u.head.designation2 ≡ h.designation2)
texts_kept year h t room s typed bs e =
    let r = read_again year h t room s typed bs e in
    (r.0, r.1, ap (λ k. k.date) r.2, ap (λ k. k.designation) r.2, ap (λ k. k.title) r.2, ap (λ k. k.designation2) r.2)

-- and one that does not fit its field, or has a zero in it, is not written at all
pub never_cut : (year : ℕ) (h : Head) (t : Table) (room : ℕ) (s : List ℕ) → Typed h → Bytes t.bytes → written year h t room ≡ given s
    → (is_text Passport.date h.date ≡ true) × (is_text Passport.designation h.designation ≡ true)
    × (is_text Passport.title h.title ≡ true) × (is_text Descriptor.designation h.designation2 ≡ true)
never_cut year h t room s typed bs e =
    let w = written-sound year h t room s typed bs e in
    let f : FineHead h = subst (λ k. FineHead k) w.1.head w.1.fine.head in (
      text_on Passport.date h.date f.date,
      text_on Passport.designation h.designation f.designation,
      text_on Passport.title h.title f.title,
      text_on Descriptor.designation h.designation2 f.designation2,
    )

-- but refused as TEXT, at its place.
pub date-refused : (year : ℕ) (h : Head) (t : Table) (room : ℕ) → is_setting year ≡ true → is_text Passport.date h.date ≡ false
    → written year h t room ≡ refused TEXT (Passport.date).place 0
unfolding written table_walk head_walk title_rules
date-refused year h t room ok date = rw (ok, date)

pub designation-refused : (year : ℕ) (h : Head) (t : Table) (room : ℕ) → is_setting year ≡ true → is_text Passport.date h.date ≡ true
    → is_text Passport.designation h.designation ≡ false → written year h t room ≡ refused TEXT (Passport.designation).place 0
unfolding written table_walk head_walk title_rules
designation-refused year h t room ok date designation = rw (ok, date, designation)

pub title-refused : (year : ℕ) (h : Head) (t : Table) (room : ℕ) → is_setting year ≡ true → is_text Passport.date h.date ≡ true
    → is_text Passport.designation h.designation ≡ true → is_text Passport.title h.title ≡ false
    → written year h t room ≡ refused TEXT (Passport.title).place 0
unfolding written table_walk head_walk title_rules
title-refused year h t room ok date designation title = rw (ok, date, designation, title)

-- Between the title and the second designation stand the 304 carried bytes: their own checks come first, so here they are given.
second-stops : (year : ℕ) (h : Head) → is_text Passport.date h.date ≡ true → is_text Passport.designation h.designation ≡ true
    → is_text Passport.title h.title ≡ true → answer (up_to year) (checks 0 (rest_checks h.rest)) ≡ given tt
    → is_text Descriptor.designation h.designation2 ≡ false → answer (up_to year) (head_walk h) ≡ refused TEXT (Descriptor.designation).place 0
unfolding head_walk title_rules
second-stops year h date designation title rest designation2 =
    rw (date, designation, title) (bind_on (up_to year) (checks 0 (rest_checks h.rest)) _ tt rest ∙ rw designation2)

pub designation2-refused : (year : ℕ) (h : Head) (t : Table) (room : ℕ) → is_setting year ≡ true → is_text Passport.date h.date ≡ true
    → is_text Passport.designation h.designation ≡ true → is_text Passport.title h.title ≡ true
    → answer (up_to year) (checks 0 (rest_checks h.rest)) ≡ given tt → is_text Descriptor.designation h.designation2 ≡ false
    → written year h t room ≡ refused TEXT (Descriptor.designation).place 0
unfolding written table_walk
designation2-refused year h t room ok date designation title rest designation2 =
    let stops = second-stops year h date designation title rest designation2 in
    rw ok (ap (λ a. and_then a (λ u. in_room room (encode u))) (bind_refused (up_to year) (head_walk h) _ stops))
