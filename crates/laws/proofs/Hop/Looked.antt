-- How many headers are looked at. (02, request 5: "That number is the hit's number plus one, or the record count if there is none.")
use mathlib.Core.Bool.{Bool, true, false, cond}
use mathlib.Core.List.{List, [], ◌∷◌}
use mathlib.Core.Path.{◌≡◌, refl, ap, ◌∙◌}
use Prim.Native.Nat.{ℕ, zero, suc, ◌+◌}
use lib.Dec.{eqb, leb}
use lib.ListN.{length, drop}
use native.Mathlib.Omega.{arith}
use Rattle.layout.specs.Bytes.{number_in}
use Rattle.layout.specs.Fields.Descriptor
use Rattle.layout.specs.Fields.Header as Field
use Rattle.layout.specs.Hop.{hit, looked_for, hop_checks, hop_from, start_checks, hop_walk, hop, past, passed_from, passed}
use Rattle.layout.specs.Reading.Records.{Header, header_in}
use Rattle.layout.specs.Reading.Sheets.{start}
use Rattle.layout.specs.Walk.{ends, given, answer, always, Check, must, dated, checks, Holds}
use Rattle.layout.specs.declared.Hop.{Hop}
use Rattle.laws.proofs.Base.Walks.{given_inj, checks_case}

past_on : (p : ℕ) (cs : List Check) (f : Unit {0} → List ℕ) → Holds cs → past (checks p cs) f ≡ f tt
past_on p [] f h = refl
past_on p (must t n k ∷ cs) f h = rw h.0 (past_on p cs f h.1)
past_on p (dated true z k ∷ cs) f h = past_on p cs f h
past_on p (dated false z k ∷ cs) f h = past_on p cs f h

has_header : (xs : List ℕ) → Holds (hop_checks xs) → leb Field.size (length xs) ≡ true
unfolding hop_checks
has_header xs c = c.0

-- the count of a hop that saw so many headers before, and passes l, of so many that are left
abbrev Counted : ℕ → ℕ → List ℕ → Hop → Type 0
Counted seen left l h = (h.looked ≡ seen + length l) × (h.looked ≡ looked_for h.hit (seen + left))

looked_from : (wanted left seen place : ℕ) (s : List ℕ) (h : Hop) → answer always (hop_from wanted left seen place s) ≡ given h
    → Counted seen left (passed_from wanted left place s) h
unfolding hop_from passed_from
looked_from wanted zero seen place s h e = rw (← (given_inj e)) (omega arith, omega arith)
looked_from wanted (suc left) seen place s h e =
    let header : Header = header_in (drop place s) in
    let next : ℕ = place + header.total in
    let rest : List ℕ = passed_from wanted left next s in
    checks_case always place (hop_checks (drop place s)) _ h e λ c y e1.
    rw (has_header (drop place s) c, past_on place (hop_checks (drop place s)) (λ _. cond (eqb header.code wanted) [] rest) c)
    (go header.total rest (looked_from wanted left (suc seen) next s h) (eqb header.code wanted) e1)
  where
    go : (total : ℕ) (rest : List ℕ)
        → (answer always (hop_from wanted left (suc seen) (place + total) s) ≡ given h → Counted (suc seen) left rest h)
        → (b : Bool) → answer always (cond b (ends (hit seen place total)) (hop_from wanted left (suc seen) (place + total) s)) ≡ given h
        → Counted seen (suc left) (place ∷ cond b [] rest) h
    go total rest k true g = rw (← (given_inj g)) (refl, refl)
    go total rest k false g = let q = k g in (omega (arith, q.0), q.1 ∙ ap (looked_for h.hit) (omega arith))

-- The count is how many headers are passed, and that is the hit's number plus one, or the record count if there is none.
pub looked : (wanted : ℕ) (s : List ℕ) (h : Hop) → hop wanted s ≡ given h
    → (h.looked ≡ length (passed wanted s)) × (h.looked ≡ looked_for h.hit (number_in Descriptor.count s))
unfolding hop hop_walk passed
looked wanted s h e =
    let count : ℕ = number_in Descriptor.count s in
    checks_case always 0 (start_checks s) _ h e λ c y e1.
    let q = looked_from wanted count 0 start s h e1 in
    rw (past_on 0 (start_checks s) (λ _. passed_from wanted count start s) c)
    (omega (arith, q.0), q.1 ∙ ap (looked_for h.hit) (omega arith))
