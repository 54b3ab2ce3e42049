-- A hit lies within the sheet, after passport and descriptor, and has a header at least.
use mathlib.Core.Bool.{Bool, true, false, cond}
use mathlib.Core.List.{List}
use mathlib.Core.Path.{◌≡◌, ap, ◌∙◌, subst}
use Prim.Native.Nat.{ℕ, zero, suc, ◌+◌, ◌-◌, ◌≤◌}
use borrow.Author.Tests.{leb-true}
use lib.Dec.{eqb}
use lib.ListN.{length, drop, length-drop}
use native.Mathlib.Omega.{arith}
use Rattle.layout.specs.Bytes.{number_in}
use Rattle.layout.specs.Fields.Descriptor
use Rattle.layout.specs.Fields.Header as Field
use Rattle.layout.specs.Hop.{hit, hop_checks, hop_from, start_checks, hop_walk, hop}
use Rattle.layout.specs.Reading.Records.{Header, header_in}
use Rattle.layout.specs.Reading.Sheets.{start}
use Rattle.layout.specs.Walk.{ends, given, answer, always, Holds}
use Rattle.layout.specs.declared.Hop.{Hop}
use Rattle.laws.proofs.Base.Walks.{given_inj, checks_case}
use Rattle.layout.specs.declared.Hit.{Hit}
use Rattle.laws.proofs.Hop.First.{some_inj}
use Rattle.std.specs.Prelude.{Option, Some, None}

-- the hit h, from a place of s on
abbrev Inside : ℕ → List ℕ → Hit → Type 0
Inside place s h = (place ≤ h.place) × (Field.size ≤ h.total) × (h.place + h.total ≤ length s)

-- a header that was let through, and its total length
pub total-fits : (place : ℕ) (s : List ℕ) → Holds (hop_checks (drop place s))
    → (Field.size ≤ (header_in (drop place s)).total) × (place + (header_in (drop place s)).total ≤ length s)
unfolding hop_checks
total-fits place s c =
    let t : ℕ = (header_in (drop place s)).total in
    let enough = leb-true Field.size (length (drop place s)) c.0 in
    let over = leb-true Field.size t c.1.1.0 in
    let under = leb-true t (length (drop place s)) c.1.1.1.0 in
    (over, omega (arith, enough, under, length-drop place s))

within_from : (wanted left seen place : ℕ) (s : List ℕ) (h : Hop) → answer always (hop_from wanted left seen place s) ≡ given h
    → (x : Hit) → h.hit ≡ Some x → Inside place s x
unfolding hop_from
within_from wanted zero seen place s h e x f =
    absurd (let q : ◌≡◌ {A = Option Hit} None (Some x) = ap (λ (z : Hop). z.hit) (given_inj e) ∙ f in let z : ◌≡◌ {A = ℕ} 0 1 = cc in omega arith)
within_from wanted (suc left) seen place s h e x f =
    let header : Header = header_in (drop place s) in
    checks_case always place (hop_checks (drop place s)) _ h e λ c y e1.
    go header.total (total-fits place s c) (λ g. within_from wanted left (suc seen) (place + header.total) s h g x f) (eqb header.code wanted) e1
  where
    go : (total : ℕ) → (Field.size ≤ total) × (place + total ≤ length s)
        → (answer always (hop_from wanted left (suc seen) (place + total) s) ≡ given h → Inside (place + total) s x)
        → (b : Bool) → answer always (cond b (ends (hit seen place total)) (hop_from wanted left (suc seen) (place + total) s)) ≡ given h
        → Inside place s x
    go total t k true g = subst (Inside place s) (some_inj (ap (λ (z : Hop). z.hit) (given_inj g) ∙ f)) (omega arith, t.0, t.1)
    go total t k false g = let i = k g in (omega (arith, i.0), i.1, i.2)

pub hit-within : (wanted : ℕ) (s : List ℕ) (h : Hop) → hop wanted s ≡ given h → (x : Hit) → h.hit ≡ Some x
    → (start ≤ x.place) × (Field.size ≤ x.total) × (x.place + x.total ≤ length s)
unfolding hop hop_walk
hit-within wanted s h e x f =
    checks_case always 0 (start_checks s) _ h e λ c y e1. within_from wanted (number_in Descriptor.count s) 0 start s h e1 x f
