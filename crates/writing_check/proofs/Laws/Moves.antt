-- Pieces taken at three places: where a piece ends, and the loop over pieces one after another.
use mathlib.Core.Bool.{Bool, true, false, cond}
use mathlib.Core.List.{List, [], ◌∷◌, ◌++◌}
use mathlib.Core.Path.{◌≡◌, refl, sym, ap, ◌∙◌}
use Prim.Native.Nat.{ℕ, zero, suc, ◌+◌, ◌≤◌, ◌<◌}
use borrow.Author.Tests.{lt-leb, leb-true, leb-false}
use lib.Dec.{leb}
use lib.ListN.{length, drop, length-append, length-drop}
use native.Mathlib.Nat.{add-zero, add_assoc}
use native.Mathlib.Omega.{arith}
use Rattle.fields.proofs.Laws.Chain.{checked_both, refused_by, step_on, step_stop}
use Rattle.fields.specs.Checks.{and_next, checked}
use Rattle.layout.specs.Answers.Calls.{and_then}
use Rattle.layout.specs.Answers.Enums.{refusal, result_of}
use Rattle.layout.specs.Bytes.{Bytes}
use Rattle.layout.specs.Fields.{limit}
use Rattle.layout.specs.Layout.Sizes.{sum_by}
use Rattle.layout.specs.Sheet.{Table}
use Rattle.layout.specs.Walk.{Walk, Answer, given, refused, answer, up_to, Check, checks, ◌>>◌}
use Rattle.layout.specs.Writing.Tables.{table, join, joined, Taken, taken, Taker, many}
use Rattle.layout.specs.declared.Refusal.{Refusal}
use Rattle.laws.proofs.Base.Lists.{all_drop}
use Rattle.laws.proofs.Base.Walks.{answer_bind, bind_on, bind_refused}
use Rattle.laws.proofs.Writing.Takes.{Takes}
use Rattle.laws.proofs.Writing.Turns.{rest_at}
use Rattle.writing_check.specs.Places.{capped, here, moved, moved_of, Any, AtBy, In}
use Rattle.writing_check.specs.declared.places.Places.{Places}
use Rattle.std.specs.Prelude.{Result, Ok, Err}

-- lengths

pub capped-low : (n : ℕ) → capped n ≤ limit + 1
capped-low n = go (leb n limit) refl
  where
    go : (b : Bool) → leb n limit ≡ b → cond b n (limit + 1) ≤ limit + 1
    go true e = let l = leb-true n limit e in omega (arith, l)
    go false e = omega arith

pub capped_is : (n : ℕ) → n ≤ limit + 1 → capped n ≡ n
capped_is n h = go (leb n limit) refl
  where
    go : (b : Bool) → leb n limit ≡ b → cond b n (limit + 1) ≡ n
    go true e = refl
    go false e = let l = leb-false n limit e in omega (arith, l)

-- a length within the limit is the length itself
pub capped_back : (n : ℕ) → capped n ≤ limit → capped n ≡ n
capped_back n h = go (leb n limit) h
  where
    go : (b : Bool) → cond b n (limit + 1) ≤ limit → cond b n (limit + 1) ≡ n
    go true h = refl
    go false h = absurd (omega arith)

pub capped-past : (n : ℕ) → limit < n → limit + 1 ≡ capped n
capped-past n h = rw (lt-leb n limit h)

pub capped-add : (a b : ℕ) → capped (capped a + b) ≡ capped (a + b)
capped-add a b = go (leb a limit) refl
  where
    go : (c : Bool) → leb a limit ≡ c → capped (cond c a (limit + 1) + b) ≡ capped (a + b)
    go true e = refl
    go false e =
        let l = leb-false a limit e in
        rw (lt-leb (limit + 1 + b) limit (omega arith), lt-leb (a + b) limit (omega (arith, l)))

-- two pieces one after another
pub moved-moved : (p : Places) (a b : Table) (m n : ℕ) → moved (moved p a m) b n ≡ moved p (join a b) (m + n)
moved-moved p a b m n =
    rw (
      length-append a.numbers b.numbers,
      length-append a.elements b.elements,
      length-append a.bytes b.bytes,
      capped-add (p.length + m) n,
      add_assoc p.length m n,
      add_assoc p.number,
      add_assoc p.element,
      add_assoc p.byte,
    )

-- no piece
pub moved_none : (p : Places) → p.length ≤ limit + 1 → moved p (table [] [] []) 0 ≡ p
moved_none p h = rw (add-zero p.number, add-zero p.element, add-zero p.byte, add-zero p.length, capped_is p.length h)

-- one list of checks and another, where the first lets through, and where it refuses
pub then_checked : (y p : ℕ) (cs ds : List Check) (r q : Result (Unit {0}) Refusal) → r ≡ checked y p cs → r ≡ Ok tt → q ≡ checked y p ds
    → q ≡ checked y p (cs ++ ds)
then_checked y p cs ds r q e ok f = f ∙ sym (checked_both y p cs ds ∙ ap (λ z. and_next z (checked y p ds)) (sym e ∙ ok))

pub then_refused : (y p : ℕ) (cs ds : List Check) (r : Result (Unit {0}) Refusal) (q : Refusal) → r ≡ checked y p cs → r ≡ Err q
    → Err q ≡ checked y p (cs ++ ds)
then_refused y p cs ds r q e f = sym (checked_both y p cs ds ∙ ap (λ z. and_next z (checked y p ds)) (sym e ∙ f))

-- a walk that begins with checks
pub after_checks : {A B : Type 0} (f : A → B) (y p : ℕ) (cs : List Check) (w : Walk A)
    → result_of f (answer (up_to y) (checks p cs >> w)) ≡ and_next (checked y p cs) (result_of f (answer (up_to y) w))
after_checks f y p cs w = go (checked y p cs) refl
  where
    go : (r : Result (Unit {0}) Refusal) → r ≡ checked y p cs
        → result_of f (answer (up_to y) (checks p cs >> w)) ≡ and_next r (result_of f (answer (up_to y) w))
    go (Ok u) e = ap (result_of f) (step_on y p cs (Ok u) e w u refl)
    go (Err q) e = ap (result_of f) (step_stop y p cs (Err q) e w q refl)

-- what an answer is, by what the code made of it
pub moved-stop : {A : Type 0} (F : A → Table) (B : A → ℕ) (p : Places) (v : Answer (Taken A)) (q : Refusal) → moved_of F B p v ≡ Err q → v ≡ refused_by q
moved-stop F B p (given a) q e = let z : ◌≡◌ {A = ℕ} 0 1 = cc in absurd (omega arith)
moved-stop F B p (refused n i y) q e = let h : refusal n i y ≡ q = cc in rw (← h) refl

moved-fine : {A : Type 0} (F : A → Table) (B : A → ℕ) (p : Places) (v : Answer (Taken A)) (q : Places) → moved_of F B p v ≡ Ok q
    → (a : Taken A) × (v ≡ given a) × (moved p (F a.value) (B a.value) ≡ q)
moved-fine F B p (given a) q e = (a, refl, cc)
moved-fine F B p (refused n i y) q e = let z : ◌≡◌ {A = ℕ} 0 1 = cc in absurd (omega arith)

-- what is known of a place in the elements is known of the one after those that a piece takes
abbrev pub Keeps : (ℕ → Type 0) → List ℕ → Type 0
Keeps El l = (n : ℕ) (a r : List ℕ) → a ++ r ≡ drop n l → El n → El (n + length a)

-- a piece that was taken at p, up to q
pub record Went {A : Type 0} (El : ℕ → Type 0) (v : Answer (Taken A)) (F : A → Table) (B : A → ℕ) (P : A → Type 0) (t : Table) (p q : Places) : Type 0 where
  pub value : A
  pub is : v ≡ given (taken value (here t q))
  pub fine : P value
  pub whole : join (F value) (here t q) ≡ here t p
  pub to : moved p (F value) (B value) ≡ q
  pub at : AtBy El t q

-- the three lists of what is left
list_after : (n : ℕ) (l a r : List ℕ) → a ++ r ≡ drop n l → n ≤ length l → n + length a ≤ length l
list_after n l a r e h = omega (arith, ap length e, length-append a r, length-drop n l)

pub in_keeps : (es : List ℕ) → Keeps (In es) es
in_keeps es n a r e h = list_after n es a r e h

at_after : (El : ℕ → Type 0) (t : Table) → Keeps El t.elements → (p q : Places) (a r : Table) (size : ℕ) → AtBy El t p → join a r ≡ here t p → moved p a size ≡ q
    → AtBy El t q
at_after El t keeps p q a r size h e m =
    rw (← m) (record {
      number = list_after p.number t.numbers a.numbers r.numbers (ap (λ u. u.numbers) e) h.number;
      element = keeps p.element a.elements r.elements (ap (λ u. u.elements) e) h.element;
      byte = list_after p.byte t.bytes a.bytes r.bytes (ap (λ u. u.bytes) e) h.byte;
      length = capped-low (p.length + size);
      is_bytes = h.is_bytes;
    })

-- where nothing is asked of the elements, they can be any
pub at_any : {El : ℕ → Type 0} {t : Table} {p : Places} → AtBy El t p → {es : List ℕ} → AtBy Any (table t.numbers es t.bytes) p
at_any h = record { number = h.number; element = tt; byte = h.byte; length = h.length; is_bytes = h.is_bytes }

-- what is left of a pool of bytes is bytes
pub bytes-here : (El : ℕ → Type 0) (t : Table) (p : Places) → AtBy El t p → Bytes (here t p).bytes
bytes-here El t p h = all_drop _ p.byte t.bytes h.is_bytes

module _ {A : Type 0} (al : ℕ → Bool) (k : ℕ) (r : Taker A) (F : A → Table) (P : A → Type 0) (Y : A → List ℕ) (T : Takes al k r F P Y)
    (B : A → ℕ) (El : ℕ → Type 0) (t : Table) (keeps : Keeps El t.elements) (p : Places) (h : AtBy El t p) (room : p.number + k ≤ length t.numbers) (m : Result Places Refusal)
    (e : m ≡ moved_of F B p (answer al (r p.number (here t p)))) where
  pub went : (q : Places) → m ≡ Ok q → Went El (answer al (r p.number (here t p))) F B P t p q
  went q i =
      let v = moved-fine F B p (answer al (r p.number (here t p))) q (sym e ∙ i) in
      let s = T.sound p.number (here t p) (omega (arith, room, length-drop p.number t.numbers)) (bytes-here El t p h) v.0 v.1 in
      let E = F v.0.value in
      let left : v.0.left ≡ here t q =
      rest_at E v.0.left t p.number p.element p.byte s.2 ∙ ap (λ w. here t w) v.2 in
      record {
        value = v.0.value;
        is = v.1 ∙ ap (λ w. given (taken v.0.value w)) left;
        fine = s.0;
        whole = ap (λ w. join E w) (sym left) ∙ s.2;
        to = v.2;
        at = at_after El t keeps p q E v.0.left (B v.0.value) h s.2 v.2;
      }

  pub stopped : (q : Refusal) → m ≡ Err q → answer al (r p.number (here t p)) ≡ refused_by q
  stopped q i = moved-stop F B p (answer al (r p.number (here t p))) q (sym e ∙ i)

-- n pieces of k numbers each, taken one after another
module _ {A : Type 0} (al : ℕ → Bool) (k : ℕ) (r : Taker A) (F : A → Table) (B : A → ℕ) (t : Table) where
  -- what is still to be answered at p, with left of them to go: the same from turn to turn
  abbrev pub Rest : ℕ → Places → Result Places Refusal
  Rest left p = moved_of (joined F) (sum_by B) p (answer al (many left k r p.number (here t p)))

  pub rest_done : (p : Places) → p.length ≤ limit + 1 → Rest zero p ≡ Ok p
  rest_done p h = ap Ok (moved_none p h)

  pub rest-stop : (n : ℕ) (p : Places) (q : Refusal) → answer al (r p.number (here t p)) ≡ refused_by q → Rest (suc n) p ≡ Err q
  rest-stop n p q e = ap (moved_of (joined F) (sum_by B) p) (bind_refused al (r p.number (here t p)) _ e)

  cons : (p q : Places) (a : A) → moved p (F a) (B a) ≡ q → (v : Answer (Taken (List A)))
      → moved_of (joined F) (sum_by B) p (and_then v (λ more. given (taken (a ∷ more.value) more.left))) ≡ moved_of (joined F) (sum_by B) q v
  cons p q a e (given more) =
      ap Ok (sym (moved-moved p (F a) (joined F more.value) (B a) (sum_by B more.value))
      ∙ ap (λ u. moved u (joined F more.value) (sum_by B more.value)) e)
  cons p q a e (refused n i y) = refl

  pub rest-turn : (El : ℕ → Type 0) (P : A → Type 0) (n : ℕ) (p q : Places) → ((a : A) → length (F a).numbers ≡ k) → Went El (answer al (r p.number (here t p))) F B P t p q
      → Rest (suc n) p ≡ Rest n q
  rest-turn El P n p q size w =
      let a = w.value in
      let next : p.number + k ≡ q.number = ap (λ j. p.number + j) (sym (size a)) ∙ ap (λ (u : Places). u.number) w.to in
      ap (moved_of (joined F) (sum_by B) p)
      (bind_on al (r p.number (here t p)) _ (taken a (here t q)) w.is
      ∙ answer_bind al (many n k r (p.number + k) (here t q)) _)
      ∙ cons p q a w.to (answer al (many n k r (p.number + k) (here t q)))
      ∙ ap (λ i. moved_of (joined F) (sum_by B) q (answer al (many n k r i (here t q)))) next

-- so much of the numbers is used
pub number-after : {A : Type 0} (El : ℕ → Type 0) (v : Answer (Taken A)) (F : A → Table) (B : A → ℕ) (P : A → Type 0) (t : Table) (p q : Places) (k : ℕ)
    → ((a : A) → length (F a).numbers ≡ k) → Went El v F B P t p q → q.number ≡ p.number + k
number-after El v F B P t p q k size w = sym (ap (λ (u : Places). u.number) w.to) ∙ ap (λ j. p.number + j) (size w.value)
