-- Checks as the code makes them, one by one, where no setting is asked for.
use mathlib.Core.List.{List}
use mathlib.Core.Path.{◌≡◌, refl, sym, ◌∙◌}
use Prim.Native.Nat.{ℕ, ◌+◌, ◌≤◌}
use borrow.Author.Tests.{le-leb}
use lib.ListN.{length, drop}
use Rattle.fields.proofs.Laws.Chain.{refused_by, step_holds, step_refused}
use Rattle.fields.specs.Checks.{checked}
use Rattle.layout.specs.Fields.Header as Field
use Rattle.layout.specs.Fields.{limit}
use Rattle.layout.specs.Hop.{hop_checks, start_checks}
use Rattle.layout.specs.Reading.Records.{Header, header_in, total_checks}
use Rattle.layout.specs.Reading.Sheets.{start, size_checks}
use Rattle.layout.specs.Walk.{Walk, answer, always, Check, checks, years_of, ◌>>◌}
use Rattle.layout.specs.declared.Refusal.{Refusal}
use Rattle.laws.proofs.Base.Lists.{◌&◌}
use Rattle.laws.proofs.Base.Walks.{bind_refused, checks_on, allowed-always}
use Rattle.laws.proofs.Hop.Within.{total-fits}
use Rattle.laws.proofs.Reading.Sheets.{size_holds}
use Rattle.laws.proofs.Years.Own.{OwnChecks, newest_setting, own_checks, own_newest}
use Rattle.std.specs.Prelude.{Result, Ok, Err}

-- The checks cs came to the answer r at every setting, and so where there is none; own says that none of them refuses as TOO NEW, or is of a year after
-- 2017.
module _ (place : ℕ) (cs : List Check) (own : OwnChecks cs) (r : Result (Unit {0}) Refusal) (n : (y : ℕ) → r ≡ checked y place cs) where
  pub all_on : {A : Type 0} (w : Walk A) → r ≡ (Ok tt) → answer always (checks place cs >> w) ≡ answer always w
  all_on w e = checks_on always place cs w (step_holds newest_setting place cs r (n newest_setting) tt e) (allowed-always (years_of cs))

  pub all-stop : {A : Type 0} (w : Walk A) (q : Refusal) → r ≡ Err q → answer always (checks place cs >> w) ≡ refused_by q
  all-stop w q e =
      bind_refused always (checks place cs) (λ _. w)
      (sym (own_newest (checks place cs) (own_checks place cs own)) ∙ step_refused newest_setting place cs r (n newest_setting) q e)

-- The header of the record that starts at a place, with xs from there on, where enough bytes are left: the checks on its total length follow.
pub header-total : (y place : ℕ) (xs : List ℕ) → Field.size ≤ length xs → (left : ℕ) → left ≡ length xs → (header : Header) → header ≡ header_in xs
    → (r : Result (Unit {0}) Refusal) → r ≡ checked y place (total_checks left header) → r ≡ checked y place (hop_checks xs)
unfolding hop_checks
header-total y place xs h left l header e r n = rw (le-leb Field.size (length xs) h) (rw (l, e) at n)

-- what is known of a sheet whose length was let through
pub sized : (s : List ℕ) (r : Result (Unit {0}) Refusal) → ((y : ℕ) → r ≡ checked y 0 (size_checks s)) → r ≡ (Ok tt) → start ≤ length s
sized s r n e = (size_holds s (step_holds newest_setting 0 (size_checks s) r (n newest_setting) tt e)).0

-- of one whose start was let through
pub started : (s : List ℕ) (r : Result (Unit {0}) Refusal) → ((y : ℕ) → r ≡ checked y 0 (start_checks s)) → r ≡ (Ok tt) → (start ≤ length s) × (length s ≤ limit)
unfolding start_checks size_checks
started s r n e = let h = step_holds newest_setting 0 (start_checks s) r (n newest_setting) tt e in size_holds s (h.0 & h.1.0 & tt)

-- and of a header that was let through: it has its own size at least, and lies within the sheet with all its record
pub header-within : (s : List ℕ) (place : ℕ) (r : Result (Unit {0}) Refusal) → ((y : ℕ) → r ≡ checked y place (hop_checks (drop place s))) → r ≡ (Ok tt)
    → (Field.size ≤ (header_in (drop place s)).total) × (place + (header_in (drop place s)).total ≤ length s)
header-within s place r n e = total-fits place s (step_holds newest_setting place (hop_checks (drop place s)) r (n newest_setting) tt e)

-- none of the checks refuses as TOO NEW, or is of a year after 2017
pub own_header : (xs : List ℕ) → OwnChecks (hop_checks xs)
unfolding hop_checks
own_header xs = refl & refl & refl & refl & tt

pub own_start : (s : List ℕ) → OwnChecks (start_checks s)
unfolding start_checks size_checks
own_start s = refl & refl & refl & refl & tt
