-- What fits the slices that are lent for unfolding: a table is answered exactly when each of its three lists fits, and then each slice begins
-- with its list. So what a caller takes back out of a slice, by the length that was answered, is that list.
use mathlib.Core.List.{List}
use mathlib.Core.Path.{◌≡◌, sym, ap, ◌∙◌}
use Prim.Native.Nat.{ℕ, ◌≤◌}
use borrow.Author.Tests.{le-leb, leb-true}
use lib.Dec.{leb}
use lib.ListN.{length, take, drop, length-append}
use lib.Seq.{take-append_seam}
use native.Mathlib.Omega.{arith}
use Rattle.layout.specs.Answers.Calls.{and_then, reading, Rooms, in_rooms, roomy, unfolded, over, lent}
use Rattle.layout.specs.Sheet.{Sheet, Table}
use Rattle.layout.specs.Walk.{Answer, given}
use Rattle.layout.specs.Writing.Tables.{flatten}
use Rattle.laws.proofs.Base.Walks.{given_inj, cond_back, then_back}

-- the table t fits the rooms r
abbrev pub Fit : Rooms → Table → Type 0
Fit r t = (length t.numbers ≤ r.numbers) × (length t.elements ≤ r.elements) × (length t.bytes ≤ r.bytes)

-- A table that fits is the one that is answered, and only such a table is.
pub rooms_on : (r : Rooms) (t : Table) → Fit r t → in_rooms r t ≡ given t
rooms_on r t f = rw (le-leb _ _ f.0, le-leb _ _ f.1, le-leb _ _ f.2)

pub rooms_back : (r : Rooms) (t v : Table) → in_rooms r t ≡ given v → Fit r t × (t ≡ v)
rooms_back r t v e =
    let a = cond_back (leb (length t.numbers) r.numbers) _ _ _ _ v e in
    let b = cond_back (leb (length t.elements) r.elements) _ _ _ _ v a.1 in
    let c = cond_back (leb (length t.bytes) r.bytes) _ _ _ _ v b.1 in
    ((leb-true _ _ a.0, leb-true _ _ b.0, leb-true _ _ c.0), given_inj c.1)

-- a sheet that was unfolded
pub roomy_back : (y : ℕ) (s : List ℕ) (r : Rooms) (u : Sheet) → roomy y s r ≡ given u
    → (reading y s ≡ given u) × (unfolded y s r ≡ given (flatten u.records)) × Fit r (flatten u.records)
unfolding roomy unfolded
roomy_back y s r u e =
    let a = then_back (reading y s) _ u e in
    let v = a.0 in
    let b = then_back (in_rooms r (flatten v.records)) _ u a.2 in
    let same : v ≡ u = given_inj b.2 in
    let fit = rooms_back r (flatten v.records) b.0 b.1 in (
      a.1 ∙ ap given same,
      ap (λ x. and_then x (λ w. in_rooms r (flatten w.records))) a.1 ∙ b.1 ∙ ap given (sym fit.1) ∙ ap (λ w. given (flatten w.records)) same,
      rw (← same) fit.0,
    )

-- One slice: what of it is filled, by the length that was answered, is the part that it was lent for, and is within the slice.
module _ {A : Type 0} (part : A → List ℕ) (a : Answer A) (v : A) (is : a ≡ given v) (before after : List ℕ) (filled : after ≡ lent part a before) (n : ℕ)
    (long : n ≡ length (part v)) where
  over-it : after ≡ over (part v) before
  over-it = filled ∙ ap (λ x. lent part x before) is

  pub part_again : take n after ≡ part v
  part_again = ap (λ (k : ℕ). take k after) long ∙ ap (λ x. take (length (part v)) x) over-it ∙ take-append_seam (part v) (drop (length (part v)) before)

  pub part-within : n ≤ length after
  part-within = omega (arith, long, ap length over-it, length-append (part v) (drop (length (part v)) before))
