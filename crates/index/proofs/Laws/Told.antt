-- The ways out of a call that gives a list in a lent slice.
use mathlib.Core.Bool.{true, false}
use mathlib.Core.List.{List}
use mathlib.Core.Path.{◌≡◌, refl, ap, sym, ◌∙◌}
use Prim.Native.Nat.{ℕ, ◌+◌, ◌≤◌, ◌<◌}
use borrow.Author.Tests.{le-leb, lt-leb}
use lib.Dec.{leb}
use lib.ListN.{length}
use lib.Seq.{sets}
use native.Mathlib.Omega.{arith}
use Rattle.fields.proofs.Laws.Put.{front_laid}
use Rattle.index.proofs.Laws.Places.{index_placed}
use Rattle.index.specs.Places.{entries_at, Holds}
use Rattle.layout.specs.Answers.Calls.{and_then, in_room, roomed, lent}
use Rattle.layout.specs.Answers.Enums.{refusal, index_sizes, indexed_of, written_of}
use Rattle.layout.specs.Answers.Lent.{the_given}
use Rattle.layout.specs.Bytes.{Bytes}
use Rattle.layout.specs.Index.Reading.{file_kind, entries_in}
use Rattle.layout.specs.Refusals.{ROOM}
use Rattle.layout.specs.Walk.{Answer, given, refused}
use Rattle.layout.specs.declared.BlockKind.{BlockKind}
use Rattle.layout.specs.declared.Entry.{Entry}
use Rattle.layout.specs.declared.IndexSizes.{IndexSizes}
use Rattle.layout.specs.declared.Refusal.{Refusal}
use Rattle.std.specs.Prelude.{Result, Ok, Err}

-- a call is to give w in a slice that held `old`: what it answers, and what the slice holds then
abbrev pub Told : List ℕ → Answer (List ℕ) → Result ℕ Refusal → List ℕ → Type 0
Told old w r out = (r ≡ written_of w) × (out ≡ lent the_given w old)

-- a list of n numbers
module _ (old l : List ℕ) (n : ℕ) (count : n ≡ length l) where
  pub told_short : length old < n → (r : Result ℕ Refusal) → r ≡ Err (refusal ROOM 0 0) → Told old (in_room (length old) l) r old
  unfolding written_of
  told_short h r e =
      let b : leb (length l) (length old) ≡ false = lt-leb (length l) (length old) (omega arith) in
      (rw b e, rw b refl)

  pub told_fits : n ≤ length old → (out : List ℕ) → out ≡ sets old 0 l → Told old (in_room (length old) l) (Ok n) out
  unfolding written_of
  told_fits h out e =
      let b : leb (length l) (length old) ≡ true = le-leb (length l) (length old) (omega arith) in
      (rw (b, count) refl, rw b (e ∙ front_laid l old (omega arith)))

-- what is made of something else, by f: that is refused, or given as l
module _ {A : Type 0} (w : Answer A) (f : A → List ℕ) (old : List ℕ) where
  pub told_refused : (q : Refusal) → w ≡ refused q.reason q.place q.year
      → Told old (roomed (length old) (and_then w (λ a. given (f a)))) (Err q) old
  unfolding written_of
  told_refused q e = rw e (refl, refl)

  pub told_given : (a : A) → w ≡ given a → (l : List ℕ) → f a ≡ l → (r : Result ℕ Refusal) (out : List ℕ) → Told old (in_room (length old) l) r out
      → Told old (roomed (length old) (and_then w (λ a. given (f a)))) r out
  told_given a e l i r out t = rw (e, i) t

-- what the check's answer says of an index
by_accepted : (kind : BlockKind) (w : Answer (List Entry)) (z : IndexSizes) → Ok z ≡ indexed_of kind w
    → (es : List Entry) × (w ≡ given es) × (length es ≡ z.entries)
unfolding indexed_of
by_accepted kind (given es) z e = let is : index_sizes kind es ≡ z = cc in (es, refl, ap (λ (v : IndexSizes). v.entries) is)
by_accepted kind (refused n p y) z e = absurd (let q : ◌≡◌ {A = ℕ} 0 1 = cc in omega arith)

pub by_refusal : (kind : BlockKind) (w : Answer (List Entry)) (q : Refusal) → Err q ≡ indexed_of kind w → w ≡ refused q.reason q.place q.year
unfolding indexed_of
by_refusal kind (given es) q e = absurd (let z : ◌≡◌ {A = ℕ} 0 1 = cc in omega arith)
by_refusal kind (refused n p y) q e = cc

-- an index that the check has accepted
pub accepted : (xs : List ℕ) → Bytes xs → (r : Result IndexSizes Refusal) → r ≡ indexed_of (file_kind xs) (entries_in xs) → (z : IndexSizes) → r ≡ Ok z
    → (kind : BlockKind) → kind ≡ file_kind xs
    → (entries_in xs ≡ given (entries_at kind xs 0 z.entries)) × Holds kind (0 + z.entries) xs
accepted xs bs r e z a kind is-kind =
    let (es, is, long) = by_accepted (file_kind xs) (entries_in xs) z (sym a ∙ e) in
    let (placed, holds) = index_placed xs bs es is in
    let none : 0 + z.entries ≡ z.entries = omega arith in
    rw (none, is-kind, ← long) (is ∙ ap given placed, holds)
