-- What a setting changes. (Demand 3: "A reader set to one of nine years answers as the 2017 reader does, except where that reader comes
-- upon a later feature before any refusal of its own: then TOO NEW with that first feature's place and year.")
use mathlib.Core.Bool.{Bool, true, false, cond}
use mathlib.Core.List.{List, [], ◌∷◌}
use mathlib.Core.Path.{◌≡◌, refl, ap, sym, ◌∙◌}
use Prim.Native.Nat.{ℕ, zero, suc, ◌+◌}
use lib.Dec.{leb}
use lib.ListN.{length}
use native.Mathlib.Omega.{arith}
use Rattle.layout.specs.Answers.Calls.{and_then, reading, Rooms, in_rooms, unfolded, roomy, record_of, asked, in_room, written}
use Rattle.layout.specs.Layout.Encode.{encode_record, encode}
use Rattle.layout.specs.Reading.Sheets.{start, sheet_walk}
use Rattle.layout.specs.Refusals.{TOO_NEW, ROOM, ASK, refusal_number}
use Rattle.layout.specs.Sheet.{Record, Head, Sheet, Table}
use Rattle.layout.specs.Walk.{Answer, given, refused, answer, up_to, met, Late, none, late, first_late, or_too_new}
use Rattle.layout.specs.Writing.Sheets.{table_walk}
use Rattle.layout.specs.Writing.Tables.{flatten}
use Rattle.layout.specs.Years.{is_setting}
use Rattle.laws.proofs.Years.Own.{own_newest, own_never}
use Rattle.laws.proofs.Years.Reading.{own_sheet}
use Rattle.laws.proofs.Years.Walks.{walk_years}
use Rattle.laws.proofs.Years.Writing.{own_table}
use Rattle.layout.specs.declared.refusals.Reason.{Reason}
pub mod Walks
pub mod Own
pub mod Reading
pub mod Writing

-- the walks, at any year
sheet-years : (s : List ℕ) (y : ℕ) → answer (up_to y) (sheet_walk s) ≡ or_too_new (first_late y (met (sheet_walk s))) (answer (up_to 2017) (sheet_walk s))
sheet-years s y = walk_years y (sheet_walk s) ∙ ap (or_too_new (first_late y (met (sheet_walk s)))) (sym (own_newest (sheet_walk s) (own_sheet s)))

table-years : (h : Head) (t : Table) (y : ℕ)
    → answer (up_to y) (table_walk h t) ≡ or_too_new (first_late y (met (table_walk h t))) (answer (up_to 2017) (table_walk h t))
table-years h t y = walk_years y (table_walk h t) ∙ ap (or_too_new (first_late y (met (table_walk h t)))) (sym (own_newest (table_walk h t) (own_table h t)))

-- For every list of bytes, accepted or not, and each of the nine settings: TOO NEW at the first feature met that is later, and else the
-- 2017 answer.
pub years : (s : List ℕ) (y : ℕ) → is_setting y ≡ true → reading y s ≡ or_too_new (first_late y (met (sheet_walk s))) (reading 2017 s)
unfolding reading
years s y e = rw e (sheet-years s y)

-- At any other year nothing is read or written, whatever is lent. ("ASK: setting not one of nine [..]; place 0")
pub no_setting : (s : List ℕ) (y : ℕ) → is_setting y ≡ false → reading y s ≡ refused ASK 0 0
unfolding reading
no_setting s y e = rw e

pub no_setting-written : (h : Head) (t : Table) (room y : ℕ) → is_setting y ≡ false → written y h t room ≡ refused ASK 0 0
unfolding written
no_setting-written h t room y e = rw e

-- TOO NEW comes before whatever is made of an answer
late-then : {A B : Type 0} (l : Late) (a : Answer A) (f : A → Answer B) → and_then (or_too_new l a) f ≡ or_too_new l (and_then a f)
late-then none a f = refl
late-then (late p z) a f = refl

-- So the same holds of whatever is made of a reading: unfolding (its table, and its answer), and a record asked for by number. ROOM and
-- ASK come after TOO NEW, as they come after every refusal of the sheet's own.
pub years-then : {B : Type 0} (f : Sheet → Answer B) (s : List ℕ) (y : ℕ) → is_setting y ≡ true
    → and_then (reading y s) f ≡ or_too_new (first_late y (met (sheet_walk s))) (and_then (reading 2017 s) f)
years-then f s y e = ap (λ a. and_then a f) (years s y e) ∙ late-then (first_late y (met (sheet_walk s))) (reading 2017 s) f

pub years-unfolded : (s : List ℕ) (rooms : Rooms) (y : ℕ) → is_setting y ≡ true
    → unfolded y s rooms ≡ or_too_new (first_late y (met (sheet_walk s))) (unfolded 2017 s rooms)
unfolding unfolded
years-unfolded s rooms = years-then (λ t. in_rooms rooms (flatten t.records)) s

pub years-roomy : (s : List ℕ) (rooms : Rooms) (y : ℕ) → is_setting y ≡ true
    → roomy y s rooms ≡ or_too_new (first_late y (met (sheet_walk s))) (roomy 2017 s rooms)
unfolding roomy
years-roomy s rooms = years-then (λ t. and_then (in_rooms rooms (flatten t.records)) (λ _. given t)) s

pub years-asked : (s : List ℕ) (number y : ℕ) → is_setting y ≡ true
    → asked y s number ≡ or_too_new (first_late y (met (sheet_walk s))) (asked 2017 s number)
unfolding asked
years-asked s number = years-then (λ t. record_of start t.records number) s

-- The same for the writer, for every head, table and room.
pub years-written : (h : Head) (t : Table) (room y : ℕ) → is_setting y ≡ true
    → written y h t room ≡ or_too_new (first_late y (met (table_walk h t))) (written 2017 h t room)
unfolding written
years-written h t room y e =
    let k : Sheet → Answer (List ℕ) = λ u. in_room room (encode u) in
    rw e (ap (λ a. and_then a k) (table-years h t y) ∙ late-then (first_late y (met (table_walk h t))) (answer (up_to 2017) (table_walk h t)) k)

-- At 2017 no TOO NEW is ever given, by the reader or by the writer.
pub at_2017 : (s : List ℕ) (place year : ℕ) → ¬ (reading 2017 s ≡ refused TOO_NEW place year)
unfolding reading
at_2017 s place year e = own_never (sheet_walk s) (own_sheet s) place year e

-- what is given is no refusal, a refusal of another number is another, and a test chooses one of two answers
never_given : {A : Type 0} (a : A) (p z : ℕ) → ¬ (given a ≡ refused TOO_NEW p z)
never_given a p z e = let q : ◌≡◌ {A = ℕ} 0 1 = cc in omega arith

never_other : {A : Type 0} (n : Reason) (k y : ℕ) → ¬ (refusal_number n ≡ refusal_number TOO_NEW) → (p z : ℕ) → ¬ (◌≡◌ {A = Answer A} (refused n k y) (refused TOO_NEW p z))
never_other n k y other p z e = let is : n ≡ TOO_NEW = cc in other (ap refusal_number is)

never_cond : {A : Type 0} (b : Bool) (a c : Answer A) (p z : ℕ)
    → ¬ (a ≡ refused TOO_NEW p z) → ¬ (c ≡ refused TOO_NEW p z) → ¬ (cond b a c ≡ refused TOO_NEW p z)
never_cond true a c p z h g = h
never_cond false a c p z h g = g

-- an answer made of one that is not TOO NEW is not, if what is made of it is not
never_then : {A B : Type 0} (a : Answer A) (f : A → Answer B) (p z : ℕ)
    → ¬ (a ≡ refused TOO_NEW p z) → ((x : A) → ¬ (f x ≡ refused TOO_NEW p z)) → ¬ (and_then a f ≡ refused TOO_NEW p z)
never_then (given a) f p z h g e = g a e
never_then {A} (refused n k y) f p z h g e = let q : ◌≡◌ {A = Answer A} (refused n k y) (refused TOO_NEW p z) = cc in h q

-- so ROOM and ASK are not TOO NEW
never_room : (room : ℕ) (s : List ℕ) (p z : ℕ) → ¬ (in_room room s ≡ refused TOO_NEW p z)
never_room room s p z = never_cond (leb (length s) room) _ _ p z (never_given s p z) (never_other ROOM 0 0 (λ e. omega arith) p z)

never_rooms : (r : Rooms) (t : Table) (p z : ℕ) → ¬ (in_rooms r t ≡ refused TOO_NEW p z)
never_rooms r t p z =
    let room : (k : ℕ) → ¬ (◌≡◌ {A = Answer Table} (refused ROOM k 0) (refused TOO_NEW p z)) = λ k. never_other ROOM k 0 (λ e. omega arith) p z in
    never_cond (leb (length t.numbers) r.numbers) _ _ p z
    (never_cond (leb (length t.elements) r.elements) _ _ p z
    (never_cond (leb (length t.bytes) r.bytes) _ _ p z (never_given t p z) (room 3))
    (room 2))
    (room 1)

never_asked : (place : ℕ) (l : List Record) (number p z : ℕ) → ¬ (record_of place l number ≡ refused TOO_NEW p z)
never_asked place [] number p z = never_other ASK 0 0 (λ e. omega arith) p z
never_asked place (r ∷ l) zero p z = never_given _ p z
never_asked place (r ∷ l) (suc number) p z = never_asked (place + length (encode_record r)) l number p z

pub at_2017_unfolded : (s : List ℕ) (rooms : Rooms) (place year : ℕ) → ¬ (unfolded 2017 s rooms ≡ refused TOO_NEW place year)
unfolding unfolded
at_2017_unfolded s rooms p z =
    never_then (reading 2017 s) (λ t. in_rooms rooms (flatten t.records)) p z (at_2017 s p z) (λ t. never_rooms rooms (flatten t.records) p z)

pub at_2017_roomy : (s : List ℕ) (rooms : Rooms) (place year : ℕ) → ¬ (roomy 2017 s rooms ≡ refused TOO_NEW place year)
unfolding roomy
at_2017_roomy s rooms p z =
    let fills : Sheet → Answer Table = λ t. in_rooms rooms (flatten t.records) in
    never_then (reading 2017 s) (λ t. and_then (fills t) (λ _. given t)) p z (at_2017 s p z)
    (λ t. never_then (fills t) (λ _. given t) p z (never_rooms rooms (flatten t.records) p z) (λ _. never_given t p z))

pub at_2017_asked : (s : List ℕ) (number place year : ℕ) → ¬ (asked 2017 s number ≡ refused TOO_NEW place year)
unfolding asked
at_2017_asked s number p z =
    never_then (reading 2017 s) (λ t. record_of start t.records number) p z (at_2017 s p z) (λ t. never_asked start t.records number p z)

pub at_2017_written : (h : Head) (t : Table) (room place year : ℕ) → ¬ (written 2017 h t room ≡ refused TOO_NEW place year)
unfolding written
at_2017_written h t room p z =
    never_then (answer (up_to 2017) (table_walk h t)) (λ u. in_room room (encode u)) p z
    (own_never (table_walk h t) (own_table h t) p z) (λ u. never_room room (encode u) p z)
