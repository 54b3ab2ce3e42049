-- Laws of `turned`, for any two turnings: what a text that is given says, the ways out in their order, and one turning after the other.
use Prim.Native.Nat.{ℕ, zero, suc, ◌<◌, ◌≤◌}
use mathlib.Core.Bool.{Bool, true, false, cond}
use mathlib.Core.List.{List, [], ◌∷◌, map}
use mathlib.Core.Logic.{◌≢◌, ◌↔◌}
use mathlib.Core.Path.{◌≡◌, refl, sym, ap, subst, ◌∙◌}
use borrow.Author.Tests.{eqb-true, eqb-false, ltb-true, ltb-false, leb-true, eq-eqb, ne_eqb, lt-ltb, le-ltb, le-leb, lt-leb}
use lib.Dec.{eqb, ltb, leb}
use lib.ListN.{length, get_or, length-map}
use native.Mathlib.Omega.{arith}
use Rattle.layout.specs.Codings.Turning.{first_of, lacks, turned}
use Rattle.layout.specs.Refusals.{ROOM, ASK, NO_CHARACTER, refusal_number}
use Rattle.layout.specs.Shared.Carried.{label_coding}
use Rattle.layout.specs.Walk.{Answer, given, refused}
use Rattle.laws.proofs.Base.Walks.{given_inj}
use Rattle.layout.specs.declared.refusals.Reason.{Reason}

-- a text is given: its coding is one of the three, each of it is turned, and it fits
pub record WasTurned (f : ℕ → ℕ) (none c : ℕ) (xs : List ℕ) (room : ℕ) (ys : List ℕ) : Type 0 where
  pub coding : c ≤ 2
  pub every : length xs ≤ first_of (lacks f none) xs
  pub fits : length xs ≤ room
  pub is : map f xs ≡ ys

module _ (f : ℕ → ℕ) (none c : ℕ) (xs : List ℕ) (room : ℕ) where
  pub was_turned : (ys : List ℕ) → turned f none c xs room ≡ given ys → WasTurned f none c xs room ys
  unfolding turned
  was_turned ys e = go (leb c 2) (ltb (first_of (lacks f none) xs) (length xs)) (leb (length (map f xs)) room) refl refl refl e
    where
      go : (p q r : Bool) → leb c 2 ≡ p → ltb (first_of (lacks f none) xs) (length xs) ≡ q → leb (length (map f xs)) room ≡ r
          → cond p (cond q (refused NO_CHARACTER (first_of (lacks f none) xs) 0) (cond r (given (map f xs)) (refused ROOM 0 0))) (refused ASK 0 0) ≡ given ys
          → WasTurned f none c xs room ys
      go true false true d h k e =
          record { coding = leb-true _ _ d; every = ltb-false _ _ h; fits = rw (length-map xs f) at (leb-true (length (map f xs)) room k); is = given_inj e }
      go true false false d h k e = absurd (let z : ◌≡◌ {A = ℕ} 0 1 = cc in omega arith)
      go true true r d h k e = absurd (let z : ◌≡◌ {A = ℕ} 0 1 = cc in omega arith)
      go false q r d h k e = absurd (let z : ◌≡◌ {A = ℕ} 0 1 = cc in omega arith)

  -- the ways out, in their order
  pub turned-ask : 2 < c → turned f none c xs room ≡ refused ASK 0 0
  unfolding turned
  turned-ask h = rw (lt-leb _ _ h)

  module _ (n : ℕ) (e : n ≡ first_of (lacks f none) xs) (d : c ≤ 2) where
    pub turned-lacks : n < length xs → turned f none c xs room ≡ refused NO_CHARACTER n 0
    unfolding turned
    turned-lacks h = rw (← e, le-leb _ _ d, lt-ltb _ _ h)

    pub turned-short : length xs ≤ n → room < length xs → turned f none c xs room ≡ refused ROOM 0 0
    unfolding turned
    turned-short h k = rw (← e, le-leb _ _ d, le-ltb _ _ h, length-map xs f, lt-leb _ _ k)

    pub turned-given : length xs ≤ n → length xs ≤ room → turned f none c xs room ≡ given (map f xs)
    unfolding turned
    turned-given h k = rw (← e, le-leb _ _ d, le-ltb _ _ h, length-map xs f, le-leb _ _ k)

-- each of xs is turned by f
abbrev pub AllTurned : (ℕ → ℕ) → ℕ → List ℕ → Type 0
AllTurned f none xs = (k : ℕ) → k < length xs → f (get_or xs k 0) ≢ none

-- i is the first index of xs at which f has none
pub record FirstWithout (f : ℕ → ℕ) (none : ℕ) (xs : List ℕ) (i : ℕ) : Type 0 where
  pub within : i < length xs
  pub lacking : f (get_or xs i 0) ≡ none
  pub none_before : (k : ℕ) → k < i → f (get_or xs k 0) ≢ none

module _ (f : ℕ → ℕ) (none : ℕ) where
  first-is : (xs : List ℕ) → first_of (lacks f none) xs < length xs → FirstWithout f none xs (first_of (lacks f none) xs)
  unfolding first_of
  first-is [] h = absurd (omega arith)
  first-is (x ∷ xs) h = go (eqb (f x) none) refl h (first-is xs)
    where
      go : (b : Bool) → eqb (f x) none ≡ b → cond b 0 (suc (first_of (lacks f none) xs)) < suc (length xs)
          → (first_of (lacks f none) xs < length xs → FirstWithout f none xs (first_of (lacks f none) xs))
          → FirstWithout f none (x ∷ xs) (cond b 0 (suc (first_of (lacks f none) xs)))
      go true e h more = record { within = h; lacking = eqb-true _ _ e; none_before = λ k l. absurd (omega arith) }
      go false e h more =
          let w = more (omega arith) in
          record { within = h; lacking = w.lacking; none_before = before w }
        where
          before : FirstWithout f none xs (first_of (lacks f none) xs) → (k : ℕ) → k < suc (first_of (lacks f none) xs) → f (get_or (x ∷ xs) k 0) ≢ none
          before w zero l = eqb-false _ _ e
          before w (suc k) l = w.none_before k (omega arith)

  is-first : (xs : List ℕ) (i : ℕ) → FirstWithout f none xs i → first_of (lacks f none) xs ≡ i
  unfolding first_of
  is-first [] i w = absurd (omega (arith, w.within))
  is-first (x ∷ xs) zero w = rw (eq-eqb _ _ w.lacking)
  is-first (x ∷ xs) (suc i) w =
      rw (ne_eqb _ _ (w.none_before 0 (omega arith))) (ap suc (is-first xs i (record {
        within = omega (arith, w.within);
        lacking = w.lacking;
        none_before = λ k l. w.none_before (suc k) (omega arith);
      })))

  all_first : (xs : List ℕ) → AllTurned f none xs → length xs ≤ first_of (lacks f none) xs
  unfolding first_of
  all_first [] all = omega arith
  all_first (x ∷ xs) all =
      let more = all_first xs (λ k l. all (suc k) (omega arith)) in
      rw (ne_eqb _ _ (all 0 (omega arith))) (omega (arith, more))

  first-all : (xs : List ℕ) → length xs ≤ first_of (lacks f none) xs → AllTurned f none xs
  unfolding first_of
  first-all [] h = λ k l. absurd (omega arith)
  first-all (x ∷ xs) h = go (eqb (f x) none) refl h (first-all xs)
    where
      go : (b : Bool) → eqb (f x) none ≡ b → suc (length xs) ≤ cond b 0 (suc (first_of (lacks f none) xs))
          → (length xs ≤ first_of (lacks f none) xs → AllTurned f none xs) → AllTurned f none (x ∷ xs)
      go true e h more k l = absurd (omega arith)
      go false e h more zero l = eqb-false _ _ e
      go false e h more (suc k) l = more (omega arith) k (omega arith)

  -- A text is given exactly where its coding is one of the three, each of it is turned, and it fits; and then it is each of it turned.
  pub given_exactly : (c : ℕ) (xs : List ℕ) (room : ℕ) (ys : List ℕ)
      → (turned f none c xs room ≡ given ys) ↔ ((label_coding c ≡ true) × AllTurned f none xs × (length xs ≤ room) × (map f xs ≡ ys))
  given_exactly c xs room ys = (
    λ e. let w = was_turned f none c xs room ys e in (le-leb c 2 w.coding, first-all xs w.every, w.fits, w.is),
    λ w. turned-given f none c xs room _ refl (leb-true c 2 w.0) (all_first xs w.1) w.2 ∙ ap given w.3,
  )

  -- ROOM comes last: each of it is turned, and it does not fit.
  pub refused-room : (c : ℕ) → c ≤ 2 → (xs : List ℕ) (room : ℕ) → AllTurned f none xs → room < length xs
      → turned f none c xs room ≡ refused ROOM 0 0
  refused-room c d xs room all h = turned-short f none c xs room _ refl d (all_first xs all) h

  refused-is : (c : ℕ) → c ≤ 2 → (xs : List ℕ) (room i : ℕ) → turned f none c xs room ≡ refused NO_CHARACTER i 0 → FirstWithout f none xs i
  unfolding turned
  refused-is c d xs room i e = go (ltb (first_of (lacks f none) xs) (length xs)) (leb (length (map f xs)) room) refl (rw (le-leb c 2 d) at e)
    where
      go : (q r : Bool) → ltb (first_of (lacks f none) xs) (length xs) ≡ q
          → cond q (refused NO_CHARACTER (first_of (lacks f none) xs) 0) (cond r (given (map f xs)) (refused ROOM 0 0)) ≡ refused NO_CHARACTER i 0
          → FirstWithout f none xs i
      go true r h e =
          let same : first_of (lacks f none) xs ≡ i = cc in
          subst (FirstWithout f none xs) same (first-is xs (ltb-true _ _ h))
      go false true h e = absurd (let z : ◌≡◌ {A = ℕ} 0 1 = cc in omega arith)
      go false false h e = absurd (let z : ◌≡◌ {A = Reason} ROOM NO_CHARACTER = cc in let y : ◌≡◌ {A = ℕ} 15 17 = ap refusal_number z in omega arith)

  -- With one of the three codings NO CHARACTER is given exactly at the first that has none, whatever the room.
  pub refused-first : (c : ℕ) → c ≤ 2 → (xs : List ℕ) (room i : ℕ) → (turned f none c xs room ≡ refused NO_CHARACTER i 0) ↔ FirstWithout f none xs i
  refused-first c d xs room i =
      (refused-is c d xs room i, λ w. turned-lacks f none c xs room i (sym (is-first xs i w)) d w.within)

-- g turns back what f turned
module _ (f g : ℕ → ℕ) (m n : ℕ) (back : (x : ℕ) → f x ≢ m → (g (f x) ≡ x) × (x ≢ n)) where
  all_back : (xs : List ℕ) → length xs ≤ first_of (lacks f m) xs → (map g (map f xs) ≡ xs) × (length xs ≤ first_of (lacks g n) (map f xs))
  unfolding first_of
  all_back [] h = (refl, omega arith)
  all_back (x ∷ xs) h = go (eqb (f x) m) refl h (all_back xs)
    where
      go : (b : Bool) → eqb (f x) m ≡ b → suc (length xs) ≤ cond b 0 (suc (first_of (lacks f m) xs))
          → (length xs ≤ first_of (lacks f m) xs → (map g (map f xs) ≡ xs) × (length xs ≤ first_of (lacks g n) (map f xs)))
          → (g (f x) ∷ map g (map f xs) ≡ x ∷ xs) × (suc (length xs) ≤ cond (eqb (g (f x)) n) 0 (suc (first_of (lacks g n) (map f xs))))
      go true e h more = absurd (omega arith)
      go false e h more =
          let (is, un) = back x (eqb-false _ _ e) in
          let (eq, le) = more (omega arith) in
          (rw (is, eq), rw (is, ne_eqb _ _ un) (omega arith))

  pub turned_back : (c : ℕ) (xs ys : List ℕ) (r s : ℕ) → turned f m c xs r ≡ given ys → length ys ≤ s → turned g n c ys s ≡ given xs
  turned_back c xs ys r s e k =
      let a = was_turned f m c xs r ys e in
      let (eq, le) = all_back xs a.every in
      let l : length (map f xs) ≡ length xs = length-map xs f in
      rw (← a.is) (turned-given g n c (map f xs) s _ refl a.coding (rw l le) (rw a.is k) ∙ ap given eq)
