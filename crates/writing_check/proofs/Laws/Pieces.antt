-- Pieces that are taken one after another: the loop over them, and what a run of them comes to where the answers are those of a taker.
use mathlib.Core.Bool.{Bool}
use mathlib.Core.List.{List}
use mathlib.Core.Path.{◌≡◌, refl, sym, ◌∙◌}
use Prim.Native.Nat.{ℕ, zero, suc, ◌+◌, ◌-◌, ◌*◌, ◌≤◌, ◌<◌}
use lib.ListN.{length}
use native.Mathlib.Omega.{arith}
use Rattle.std.proofs.Math.Nat.{mul-suc}
use Rattle.layout.specs.Layout.Sizes.{sum_by}
use Rattle.layout.specs.Sheet.{Table}
use Rattle.layout.specs.Walk.{answer}
use Rattle.layout.specs.Writing.Tables.{joined, Taker, many}
use Rattle.layout.specs.declared.Refusal.{Refusal}
use Rattle.laws.proofs.Writing.Takes.{Takes}
use Rattle.std.specs.Prelude.{Ok, Err}
use Rattle.writing_check.proofs.Laws.Moves.{Keeps, Went, went, stopped, number-after, rest_done, rest-stop, rest-turn}
use Rattle.writing_check.specs.Pieces.{Answered, Calls, MayTake, Run, Took}
use Rattle.writing_check.specs.Places.{here, moved_of, AtBy}
use Rattle.writing_check.specs.declared.places.Places.{Places}

-- with left of the n to go at p: what these come to, all do
module _ (pre : Places → Type 0) (post : Places → Answered → Type 0) where
  pub record Midway (n : ℕ) (p₀ : Places) (left : ℕ) (p : Places) : Type 0 where
    pub calls : Calls pre post left p
    pub run : (r : Answered) → Run post left p r → Run post n p₀ r

  pub midway_start : (n : ℕ) (p : Places) → MayTake pre post n p → Midway n p n p
  midway_start n p m = record { calls = m.calls; run = λ r t. t }

  pub midway_pre : (n : ℕ) (p₀ : Places) (left : ℕ) (p : Places) → Midway n p₀ left p → 0 < left → pre p
  midway_pre n p₀ zero p m h = absurd (omega arith)
  midway_pre n p₀ (suc k) p m h = m.calls.0

  pub midway_turn : (n : ℕ) (p₀ : Places) (left : ℕ) (p q : Places) → Midway n p₀ left p → 0 < left → post p (Ok q) → Midway n p₀ (left - 1) q
  midway_turn n p₀ zero p q m h f = absurd (omega arith)
  midway_turn n p₀ (suc k) p q m h f =
      let e : suc k - 1 ≡ k = omega arith in
      rw e (record { calls = m.calls.1 q f; run = λ r t. m.run r (Ok q, f, t) })

  pub midway_stop : (n : ℕ) (p₀ : Places) (left : ℕ) (p : Places) (e : Refusal) → Midway n p₀ left p → 0 < left → post p (Err e)
      → Took post n p₀ (Err e)
  midway_stop n p₀ zero p e m h f = absurd (omega arith)
  midway_stop n p₀ (suc k) p e m h f = record { run = m.run (Err e) (Err e, f, refl) }

  pub midway_done : (n : ℕ) (p₀ : Places) (left : ℕ) (p : Places) → Midway n p₀ left p → left ≤ 0 → Took post n p₀ (Ok p)
  midway_done n p₀ zero p m h = record { run = m.run (Ok p) refl }
  midway_done n p₀ (suc k) p m h = absurd (omega arith)

-- a run of pieces, where each call is one of a taker's
module _ {A : Type 0} (al : ℕ → Bool) (k : ℕ) (r : Taker A) (F : A → Table) (P : A → Type 0) (Y : A → List ℕ) (T : Takes al k r F P Y) (B : A → ℕ)
    (size : (a : A) → length (F a).numbers ≡ k) (El : ℕ → Type 0) (t : Table) (keeps : Keeps El t.elements) (pre : Places → Type 0) (post : Places → Answered → Type 0)
    (is : (p : Places) (m : Answered) → post p m → m ≡ moved_of F B p (answer al (r p.number (here t p)))) where
  abbrev One : Places → Places → Type 0
  One p q = Went El (answer al (r p.number (here t p))) F B P t p q

  one : (p q : Places) → AtBy El t p → p.number + k ≤ length t.numbers → post p (Ok q) → One p q
  one p q h room f = went al k r F P Y T B El t keeps p h room (Ok q) (is p (Ok q) f) q refl

  one_next : (p q : Places) → One p q → q.number ≡ p.number + k
  one_next p q w = number-after El (answer al (r p.number (here t p))) F B P t p q k size w

  calls : (ask : (p : Places) → AtBy El t p → p.number + k ≤ length t.numbers → pre p)
      → (n : ℕ) (p : Places) → AtBy El t p → p.number + k * n ≤ length t.numbers → Calls pre post n p
  calls ask zero p h room = tt
  calls ask (suc n) p h room = (
    ask p h (omega (arith, mul-suc k n)),
    λ q f. let w = one p q h (omega (arith, mul-suc k n)) f in calls ask n q w.at (omega (arith, mul-suc k n, one_next p q w)),
  )

  pub may_take : (n : ℕ) (p : Places) → AtBy El t p → p.number + k * n ≤ length t.numbers
      → ((p : Places) → AtBy El t p → p.number + k ≤ length t.numbers → pre p) → MayTake pre post n p
  may_take n p h room ask = record { calls = calls ask n p h room }

  run_is : (n : ℕ) (p : Places) (m : Answered) → AtBy El t p → p.number + k * n ≤ length t.numbers → Run post n p m
      → m ≡ moved_of (joined F) (sum_by B) p (answer al (many n k r p.number (here t p)))
  run_is zero p m h room e = e ∙ sym (rest_done al k r F B t p h.length)
  run_is (suc n) p m h room (Ok q, f, g) =
      let w = one p q h (omega (arith, mul-suc k n)) f in
      run_is n q m w.at (omega (arith, mul-suc k n, one_next p q w)) g ∙ sym (rest-turn al k r F B t El P n p q size w)
  run_is (suc n) p m h room (Err e, f, g) =
      g ∙ sym (rest-stop al k r F B t n p e (stopped al k r F P Y T B El t keeps p h (omega (arith, mul-suc k n)) (Err e) (is p (Err e) f) e refl))

  pub took_is : (n : ℕ) (p : Places) (m : Answered) → AtBy El t p → p.number + k * n ≤ length t.numbers → Took post n p m
      → m ≡ moved_of (joined F) (sum_by B) p (answer al (many n k r p.number (here t p)))
  took_is n p m h room g = run_is n p m h room g.run
