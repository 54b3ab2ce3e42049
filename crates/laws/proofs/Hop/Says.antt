-- What a hop says of any bytes. (02, request 5: "On other bytes it says only what the headers passed so far say.")
use mathlib.Core.Bool.{Bool, true, false, cond}
use mathlib.Core.List.{List}
use mathlib.Core.Path.{◌≡◌, refl, ap, sym, ◌∙◌, subst}
use Prim.Native.Nat.{ℕ, zero, suc, ◌+◌, ◌<◌}
use borrow.Author.Tests.{eqb-true, eqb-false}
use lib.Dec.{eqb}
use lib.ListN.{drop}
use native.Mathlib.Omega.{arith}
use Rattle.layout.specs.Bytes.{number_in}
use Rattle.layout.specs.Fields.Descriptor
use Rattle.layout.specs.Fields.Header as Field
use Rattle.layout.specs.Hop.{hit, no_hit, misses, hop_checks, hop_from, start_checks, hop_walk, hop}
use Rattle.layout.specs.Reading.Hops.{place_in}
use Rattle.layout.specs.Reading.Records.{Header, header_in}
use Rattle.layout.specs.Reading.Sheets.{start}
use Rattle.layout.specs.Walk.{ends, given, answer, always, Holds}
use Rattle.layout.specs.declared.Hop.{Hop}
use Rattle.laws.proofs.Base.Walks.{given_inj, checks_case}
use Rattle.layout.specs.declared.Hit.{Hit}
use Rattle.laws.proofs.Hop.First.{some_inj}
use Rattle.std.specs.Prelude.{Option, Some, None}

-- the header at a place
abbrev at : ℕ → List ℕ → Header
at place s = header_in (drop place s)

identified : (place : ℕ) (s : List ℕ) → Holds (hop_checks (drop place s)) → eqb (at place s).identifier Field.identifier_is ≡ true
unfolding hop_checks
identified place s c = c.1.0

-- h is the record that is k-th from a place on, of so many that are left, where so many were seen before, and its header has the identifier, the
-- wanted code and the total length that is told
record Said (wanted left seen place : ℕ) (s : List ℕ) (h : Hit) : Type 0 where
  k : ℕ
  counted : k < left
  number : h.«record» ≡ seen + k
  there : h.place ≡ place_in k place s
  identifier : (at h.place s).identifier ≡ Field.identifier_is
  code : (at h.place s).code ≡ wanted
  total : (at h.place s).total ≡ h.total

says_from : (wanted left seen place : ℕ) (s : List ℕ) (h : Hop) → answer always (hop_from wanted left seen place s) ≡ given h
    → (x : Hit) → h.hit ≡ Some x → Said wanted left seen place s x
unfolding hop_from
says_from wanted zero seen place s h e x f =
    absurd (let q : ◌≡◌ {A = Option Hit} None (Some x) = ap (λ (z : Hop). z.hit) (given_inj e) ∙ f in let z : ◌≡◌ {A = ℕ} 0 1 = cc in omega arith)
says_from wanted (suc left) seen place s h e x f =
    checks_case always place (hop_checks (drop place s)) _ h e λ c y e1.
    go (eqb-true _ _ (identified place s c)) (λ g. says_from wanted left (suc seen) (place + (at place s).total) s h g x f) (eqb (at place s).code wanted) refl e1
  where
    go : (at place s).identifier ≡ Field.identifier_is
        → (answer always (hop_from wanted left (suc seen) (place + (at place s).total) s) ≡ given h
        → Said wanted left (suc seen) (place + (at place s).total) s x)
        → (b : Bool) → eqb (at place s).code wanted ≡ b
        → answer always (cond b (ends (hit seen place (at place s).total)) (hop_from wanted left (suc seen) (place + (at place s).total) s)) ≡ given h
        → Said wanted (suc left) seen place s x
    go i k true b g =
        subst (Said wanted (suc left) seen place s) (some_inj (ap (λ (z : Hop). z.hit) (given_inj g) ∙ f))
        (record { k = 0; counted = omega arith; number = omega arith; there = refl; identifier = i; code = eqb-true _ _ b; total = refl })
    go i k false b g =
        let q = k g in
        record {
          k = suc q.k;
          counted = omega (arith, q.counted);
          number = omega (arith, q.number);
          there = q.there;
          identifier = q.identifier;
          code = q.code;
          total = q.total;
        }

-- A hit is one of the counted records. Its header has the identifier, the wanted code and the total length that is told, and as many hops as its
-- number lead to it.
pub record HitSays (wanted : ℕ) (s : List ℕ) (h : Hit) : Type 0 where
  pub counted : h.«record» < number_in Descriptor.count s
  pub there : h.place ≡ place_in h.«record» start s
  pub identifier : (header_in (drop h.place s)).identifier ≡ Field.identifier_is
  pub code : (header_in (drop h.place s)).code ≡ wanted
  pub total : (header_in (drop h.place s)).total ≡ h.total

pub hit_says : (wanted : ℕ) (s : List ℕ) (h : Hop) → hop wanted s ≡ given h → (x : Hit) → h.hit ≡ Some x → HitSays wanted s x
unfolding hop hop_walk
hit_says wanted s h e x f =
    checks_case always 0 (start_checks s) _ h e λ c y e1.
    let q = says_from wanted (number_in Descriptor.count s) 0 start s h e1 x f in
    let k : q.k ≡ x.«record» = omega (arith, q.number) in
    record {
      counted = omega (arith, k, q.counted);
      there = q.there ∙ ap (λ n. place_in n start s) k;
      identifier = q.identifier;
      code = q.code;
      total = q.total;
    }

before_from : (wanted left seen place : ℕ) (s : List ℕ) (h : Hop) → answer always (hop_from wanted left seen place s) ≡ given h
    → (k : ℕ) → seen + k < misses h.hit h.looked → (at (place_in k place s) s).code ≡ wanted → ⊥
unfolding hop_from
before_from wanted zero seen place s h e k l =
    let q : seen + k < seen = subst (λ (x : Hop). seen + k < misses x.hit x.looked) (sym (given_inj e)) l in
    absurd (omega (arith, q))
before_from wanted (suc left) seen place s h e k l =
    checks_case always place (hop_checks (drop place s)) _ h e λ c y e1.
    go (before_from wanted left (suc seen) (place + (at place s).total) s h) (eqb (at place s).code wanted) refl e1 k l
  where
    go : (answer always (hop_from wanted left (suc seen) (place + (at place s).total) s) ≡ given h
        → (k : ℕ) → suc seen + k < misses h.hit h.looked → (at (place_in k (place + (at place s).total) s) s).code ≡ wanted → ⊥)
        → (b : Bool) → eqb (at place s).code wanted ≡ b
        → answer always (cond b (ends (hit seen place (at place s).total)) (hop_from wanted left (suc seen) (place + (at place s).total) s)) ≡ given h
        → (k : ℕ) → seen + k < misses h.hit h.looked → (at (place_in k place s) s).code ≡ wanted → ⊥
    go r true b g k l =
        let q : seen + k < seen = subst (λ (x : Hop). seen + k < misses x.hit x.looked) (sym (given_inj g)) l in
        absurd (omega (arith, q))
    go r false b g zero l = eqb-false _ _ b
    go r false b g (suc k) l = r g k (omega (arith, l))

-- No header before the hit has the code; without a hit, none that was looked at.
pub none_before : (wanted : ℕ) (s : List ℕ) (h : Hop) → hop wanted s ≡ given h → (k : ℕ) → k < misses h.hit h.looked
    → (header_in (drop (place_in k start s) s)).code ≡ wanted → ⊥
unfolding hop hop_walk
none_before wanted s h e k l =
    checks_case always 0 (start_checks s) _ h e λ c y e1.
    before_from wanted (number_in Descriptor.count s) 0 start s h e1 k (omega (arith, l))

none_from : (wanted left seen place : ℕ) (s : List ℕ) (h : Hop) → answer always (hop_from wanted left seen place s) ≡ given h → h.hit ≡ None
    → h ≡ no_hit (seen + left)
unfolding hop_from
none_from wanted zero seen place s h e f = sym (given_inj e) ∙ ap no_hit (omega arith)
none_from wanted (suc left) seen place s h e f =
    checks_case always place (hop_checks (drop place s)) _ h e λ c y e1.
    go (at place s).total (λ g. none_from wanted left (suc seen) (place + (at place s).total) s h g f) (eqb (at place s).code wanted) e1
  where
    go : (total : ℕ) → (answer always (hop_from wanted left (suc seen) (place + total) s) ≡ given h → h ≡ no_hit (suc seen + left))
        → (b : Bool) → answer always (cond b (ends (hit seen place total)) (hop_from wanted left (suc seen) (place + total) s)) ≡ given h
        → h ≡ no_hit (seen + suc left)
    go total k true g = absurd (let q : ◌≡◌ {A = Option Hit} (Some (record { «record» = seen; place = place; total = total })) None = ap (λ (x : Hop). x.hit) (given_inj g) ∙ f in let z : ◌≡◌ {A = ℕ} 0 1 = cc in omega arith)
    go total k false g = k g ∙ ap no_hit (omega arith)

-- Without a hit the count is the descriptor's.
pub no_hit_lem : (wanted : ℕ) (s : List ℕ) (h : Hop) → hop wanted s ≡ given h → h.hit ≡ None → h ≡ no_hit (number_in Descriptor.count s)
unfolding hop hop_walk
no_hit_lem wanted s h e f =
    checks_case always 0 (start_checks s) _ h e λ c y e1.
    none_from wanted (number_in Descriptor.count s) 0 start s h e1 f ∙ ap no_hit (omega arith)
