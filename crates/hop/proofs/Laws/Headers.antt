-- The loop over the headers: what is left answers what the whole does, one header a turn. Then the whole sheet.
use mathlib.Core.Bool.{cond}
use mathlib.Core.List.{List}
use mathlib.Core.Path.{◌≡◌, refl, sym, ap, ◌∙◌}
use Prim.Native.Nat.{ℕ, suc, ◌+◌, ◌-◌, ◌<◌}
use borrow.Author.Tests.{eq-eqb, ne_eqb}
use lib.Dec.{eqb}
use lib.ListN.{drop}
use native.Mathlib.Numerals.{add-one}
use native.Mathlib.Omega.{arith}
use Rattle.fields.specs.Checks.{checked}
use Rattle.hop.proofs.Laws.Checks.{all_on, all-stop, own_header, own_start}
use Rattle.layout.specs.Answers.Enums.{hopped_of}
use Rattle.layout.specs.Bytes.{number_in}
use Rattle.layout.specs.Fields.Descriptor
use Rattle.layout.specs.Hop.{hit, no_hit, hop_checks, hop_from, start_checks, hop_walk, hop}
use Rattle.layout.specs.Reading.Records.{Header, header_in}
use Rattle.layout.specs.Reading.Sheets.{start}
use Rattle.layout.specs.Walk.{Walk, ends, Answer, answer, always}
use Rattle.layout.specs.declared.Hop.{Hop as Answered}
use Rattle.layout.specs.declared.Refusal.{Refusal}
use Rattle.std.specs.Prelude.{Result, Ok, Err}

-- the code that is wanted, the sheet, and its count of records
module _ (code : ℕ) (s : List ℕ) (count : ℕ) where
  -- what is answered where so many headers were looked at, and the next record starts at a place
  abbrev pub onward : ℕ → ℕ → Answer Answered
  onward seen place = answer always (hop_from code (count - seen) seen place s)

  pub at_first : (place n : ℕ) → count ≡ n → onward 0 place ≡ answer always (hop_from code n 0 place s)
  at_first place n e = let z : count - 0 ≡ n = omega (arith, e) in rw z refl

  pub none_left : (seen place : ℕ) → seen ≡ count → Ok (no_hit count) ≡ hopped_of (onward seen place)
  unfolding hop_from hopped_of
  none_left seen place e = let z : count - seen ≡ 0 = omega arith in rw (z, e) refl

  -- the next header, whose checks came to the answer r
  module _ (seen place : ℕ) (h : seen < count) (r : Result (Unit {0}) Refusal) (n : (y : ℕ) → r ≡ checked y place (hop_checks (drop place s))) where
    more : count - seen ≡ suc (count - suc seen)
    more = omega arith

    pub header_refused : (q : Refusal) → r ≡ Err q → Err q ≡ hopped_of (onward seen place)
    unfolding hop_from hopped_of
    header_refused q e = rw more (sym (ap hopped_of (all-stop place (hop_checks (drop place s)) (own_header (drop place s)) r n _ q e)))

    module _ (fine : r ≡ (Ok tt)) where
      -- what comes after the checks, by the header's code and total length
      abbrev then : ℕ → ℕ → Walk Answered
      then its total = cond (eqb its code) (ends (hit seen place total)) (hop_from code (count - suc seen) (suc seen) (place + total) s)

      module _ (header : Header) (is : header ≡ header_in (drop place s)) where
        passed : onward seen place ≡ answer always (then header.code header.total)
        unfolding hop_from
        passed = rw (more, is) (all_on place (hop_checks (drop place s)) (own_header (drop place s)) r n _ fine)

        pub header-hit : header.code ≡ code → Ok (hit seen place header.total) ≡ hopped_of (onward seen place)
        unfolding hopped_of
        header-hit e = rw (passed, eq-eqb header.code code e) refl

        pub header_other : (header.code ≡ code → ⊥) → onward seen place ≡ onward (seen + 1) (place + header.total)
        header_other e = passed ∙ rw (ne_eqb header.code code e, add-one seen) refl

-- A hop over the whole sheet, whose start came to the answer r.
module _ (code : ℕ) (s : List ℕ) (r : Result (Unit {0}) Refusal) (n : (y : ℕ) → r ≡ checked y 0 (start_checks s)) where
  pub start_on : r ≡ (Ok tt) → hop code s ≡ answer always (hop_from code (number_in Descriptor.count s) 0 start s)
  unfolding hop hop_walk
  start_on e = all_on 0 (start_checks s) (own_start s) r n _ e

  pub start-refused : (q : Refusal) → r ≡ Err q → Err q ≡ hopped_of (hop code s)
  unfolding hop hop_walk hopped_of
  start-refused q e = sym (ap hopped_of (all-stop 0 (start_checks s) (own_start s) r n _ q e))
