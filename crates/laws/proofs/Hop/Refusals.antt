-- Which refusals there are. (02, request 5: "Refusals: 1, 2, 3 and 10 as for sheet size, identifiers and total lengths, header by header")
use mathlib.Core.Bool.{Bool, true, false, cond}
use mathlib.Core.List.{List, [], ◌∷◌}
use mathlib.Core.Path.{◌≡◌, refl}
use Prim.Native.Nat.{ℕ, zero, suc, ◌+◌}
use lib.Dec.{eqb}
use lib.ListN.{drop}
use native.Mathlib.Omega.{arith}
use Rattle.layout.specs.Bytes.{number_in}
use Rattle.layout.specs.Fields.Descriptor
use Rattle.layout.specs.Hop.{hit, hop_checks, hop_from, start_checks, hop_walk, hop}
use Rattle.layout.specs.Reading.Records.{Header, header_in}
use Rattle.layout.specs.Reading.Sheets.{start, size_checks}
use Rattle.layout.specs.Refusals.{TOO_LONG, SHORT, NOT_SXF, LENGTH, refusal_number}
use Rattle.layout.specs.Walk.{Walk, ends, stops, meets, refused, answer, always, ◌>>=◌, Check, must, dated, checks}
use Rattle.layout.specs.Years.{one_of}
use Rattle.laws.proofs.Base.Lists.{◌&◌}
use Rattle.layout.specs.declared.refusals.Reason.{Reason}

abbrev pub refusals : List ℕ
refusals = refusal_number TOO_LONG ∷ refusal_number SHORT ∷ refusal_number NOT_SXF ∷ refusal_number LENGTH ∷ []

-- a walk that meets no feature, and stops with one of these only
abbrev Named : {A : Type 0} → Walk A → Type 0
Named (ends a) = Unit {0}
Named (stops n p) = one_of refusals (refusal_number n) ≡ true
Named (meets p z w) = ⊥

abbrev NamedChecks : List Check → Type 0
NamedChecks [] = Unit {0}
NamedChecks (must t n k ∷ cs) = (one_of refusals (refusal_number n) ≡ true) × NamedChecks cs
NamedChecks (dated t z k ∷ cs) = ⊥

named-then : {A : Type 0} (p : ℕ) (cs : List Check) (f : Unit {0} → Walk A) → NamedChecks cs → Named (f tt) → Named (checks p cs >>= f)
named-then p [] f h g = g
named-then p (must true n k ∷ cs) f h g = named-then p cs f h.1 g
named-then p (must false n k ∷ cs) f h g = h.0
named-then p (dated t z k ∷ cs) f h g = absurd h

named-answer : {A : Type 0} (w : Walk A) → Named w → (n : Reason) (p y : ℕ) → answer always w ≡ refused n p y → (one_of refusals (refusal_number n) ≡ true) × (y ≡ 0)
named-answer (ends a) h n p y e = absurd (let z : ◌≡◌ {A = ℕ} 0 1 = cc in omega arith)
named-answer (stops m k) h n p y e = let i : m ≡ n = cc in let j : y ≡ 0 = cc in (rw (← i) h, j)
named-answer (meets k z w) h n p y e = absurd h

named-header : (xs : List ℕ) → NamedChecks (hop_checks xs)
unfolding hop_checks
named-header xs = refl & refl & refl & refl & tt

named_start : (s : List ℕ) → NamedChecks (start_checks s)
unfolding start_checks size_checks
named_start s = refl & refl & refl & refl & tt

named_from : (wanted left seen place : ℕ) (s : List ℕ) → Named (hop_from wanted left seen place s)
unfolding hop_from
named_from wanted zero seen place s = tt
named_from wanted (suc left) seen place s =
    let header : Header = header_in (drop place s) in
    named-then place (hop_checks (drop place s)) _ (named-header (drop place s))
    (go header.total (named_from wanted left (suc seen) (place + header.total) s) (eqb header.code wanted))
  where
    go : (total : ℕ) → Named (hop_from wanted left (suc seen) (place + total) s)
        → (b : Bool) → Named (cond b (ends (hit seen place total)) (hop_from wanted left (suc seen) (place + total) s))
    go total k true = tt
    go total k false = k

-- A refusal is TOO LONG, SHORT, NOT SXF or LENGTH, and has no year.
pub hop-refusals : (wanted : ℕ) (s : List ℕ) (n : Reason) (p y : ℕ) → hop wanted s ≡ refused n p y → (one_of refusals (refusal_number n) ≡ true) × (y ≡ 0)
unfolding hop hop_walk
hop-refusals wanted s n p y e =
    named-answer (hop_walk wanted s) (named-then 0 (start_checks s) _ (named_start s) (named_from wanted (number_in Descriptor.count s) 0 start s)) n p y e
