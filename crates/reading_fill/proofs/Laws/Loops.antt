-- The loops of pass 2: pieces by their count, and pieces up to the end of the bytes, one turn at a time and without fuel.
use mathlib.Core.List.{List, [], ◌∷◌}
use mathlib.Core.Path.{◌≡◌, refl, sym, ap, subst, ◌∙◌}
use Prim.Native.Nat.{ℕ, zero, suc, ◌+◌, ◌-◌, ◌≤◌, ◌<◌}
use lib.ListN.{length, drop, length-drop}
use lib.Seq.{drop-drop}
use native.Mathlib.Omega.{arith}
use Rattle.reading_fill.specs.Cursors.{HasRoom, Fills}
use Rattle.reading_fill.specs.Pieces.{times_in, times_size, filling_in, filling_size, fill_in, fill_size, Each}
use Rattle.reading_fill.specs.declared.filler.Filler.{Filler}
use Rattle.fields.specs.Cursors.{moved, Room}
use Rattle.fields.specs.declared.cursors.Cursor.{Cursor}
use Rattle.layout.specs.Sheet.{Table}
use Rattle.layout.specs.Writing.Tables.{join, joined}
use Rattle.fields.proofs.Laws.Cursors.{room-first}
use Rattle.reading_fill.proofs.Laws.Moves.{Left, left-start, left-room, left-room-flat, left_done, left-turn}

module _ {A : Type 0} (one : List ℕ → A) (size : List ℕ → ℕ) where
  pub times_cons : (n m : ℕ) (ys : List ℕ) → n ≡ suc m → times_in one size n ys ≡ one ys ∷ times_in one size m (drop (size ys) ys)
  unfolding times_in
  times_cons n m ys e = rw e refl

  pub times_none : (n : ℕ) (ys : List ℕ) → n ≤ 0 → times_in one size n ys ≡ []
  unfolding times_in
  times_none zero ys h = refl
  times_none (suc n) ys h = absurd (omega arith)

  pub times-length : (n : ℕ) (ys : List ℕ) → length (times_in one size n ys) ≡ n
  unfolding times_in
  times-length zero ys = refl
  times-length (suc n) ys = ap suc (times-length n (drop (size ys) ys))

  module _ (grows : (ys : List ℕ) → 0 < size ys) where
    -- more fuel than bytes changes nothing
    fuel : (f g : ℕ) (ys : List ℕ) → length ys ≤ f → length ys ≤ g → filling_in one size f ys ≡ filling_in one size g ys
    unfolding filling_in
    fuel zero zero [] h k = refl
    fuel zero (suc g) [] h k = refl
    fuel (suc f) zero [] h k = refl
    fuel (suc f) (suc g) [] h k = refl
    fuel zero g (y ∷ ys) h k = absurd (omega arith)
    fuel (suc f) zero (y ∷ ys) h k = absurd (omega arith)
    fuel (suc f) (suc g) (y ∷ ys) h k =
        let z = grows (y ∷ ys) in
        let l = length-drop (size (y ∷ ys)) (y ∷ ys) in
        ap (λ l. one (y ∷ ys) ∷ l) (fuel f g (drop (size (y ∷ ys)) (y ∷ ys)) (omega arith) (omega arith))

    pub fill_cons : (ys : List ℕ) → 0 < length ys → fill_in one size ys ≡ one ys ∷ fill_in one size (drop (size ys) ys)
    unfolding filling_in
    fill_cons [] h = absurd (omega arith)
    fill_cons (y ∷ ys) h =
        let z = grows (y ∷ ys) in
        let l = length-drop (size (y ∷ ys)) (y ∷ ys) in
        ap (λ l. one (y ∷ ys) ∷ l) (fuel (length ys) (length (drop (size (y ∷ ys)) (y ∷ ys))) (drop (size (y ∷ ys)) (y ∷ ys)) (omega arith) (omega arith))

  pub fill_none : (ys : List ℕ) → length ys ≤ 0 → fill_in one size ys ≡ []
  unfolding filling_in
  fill_none [] h = refl
  fill_none (y ∷ ys) h = absurd (omega arith)

module _ (size : List ℕ → ℕ) where
  pub times-size_cons : (n m : ℕ) (ys : List ℕ) → n ≡ suc m → times_size size n ys ≡ size ys + times_size size m (drop (size ys) ys)
  unfolding times_size
  times-size_cons n m ys e = rw e refl

  pub times-size-none : (n : ℕ) (ys : List ℕ) → n ≤ 0 → times_size size n ys ≡ 0
  unfolding times_size
  times-size-none zero ys h = refl
  times-size-none (suc n) ys h = absurd (omega arith)

  module _ (grows : (ys : List ℕ) → 0 < size ys) where
    fuel_size : (f g : ℕ) (ys : List ℕ) → length ys ≤ f → length ys ≤ g → filling_size size f ys ≡ filling_size size g ys
    unfolding filling_size
    fuel_size zero zero [] h k = refl
    fuel_size zero (suc g) [] h k = refl
    fuel_size (suc f) zero [] h k = refl
    fuel_size (suc f) (suc g) [] h k = refl
    fuel_size zero g (y ∷ ys) h k = absurd (omega arith)
    fuel_size (suc f) zero (y ∷ ys) h k = absurd (omega arith)
    fuel_size (suc f) (suc g) (y ∷ ys) h k =
        let z = grows (y ∷ ys) in
        let l = length-drop (size (y ∷ ys)) (y ∷ ys) in
        ap (λ n. size (y ∷ ys) + n) (fuel_size f g (drop (size (y ∷ ys)) (y ∷ ys)) (omega arith) (omega arith))

    pub fill-size_cons : (ys : List ℕ) → 0 < length ys → fill_size size ys ≡ size ys + fill_size size (drop (size ys) ys)
    unfolding filling_size
    fill-size_cons [] h = absurd (omega arith)
    fill-size_cons (y ∷ ys) h =
        let z = grows (y ∷ ys) in
        let l = length-drop (size (y ∷ ys)) (y ∷ ys) in
        ap (λ n. size (y ∷ ys) + n) (fuel_size (length ys) (length (drop (size (y ∷ ys)) (y ∷ ys))) (drop (size (y ∷ ys)) (y ∷ ys)) (omega arith) (omega arith))

  pub fill-size-none : (ys : List ℕ) → length ys ≤ 0 → fill_size size ys ≡ 0
  unfolding filling_size
  fill-size-none [] h = refl
  fill-size-none (y ∷ ys) h = absurd (omega arith)

-- what is left to do before and after a turn
pub turn_left : (n k : ℕ) → k < n → n - k ≡ suc (n - (k + 1))
turn_left n k h = omega arith

-- loops whose turn takes the piece `one` of `size` bytes; table is its table
module _ {A : Type 0} (one : List ℕ → A) (size : List ℕ → ℕ) (table : A → Table) (xs : List ℕ) (c : Cursor) (f₀ : Filler) where
  -- n pieces, of which k are done
  module _ (n : ℕ) where
    abbrev pub Turns : ℕ → Cursor → Filler → Type 0
    Turns k at f =
        Left c (times_size size n (drop c.place xs)) (joined table (times_in one size n (drop c.place xs))) f₀
        at (times_size size (n - k) (drop at.place xs)) (joined table (times_in one size (n - k) (drop at.place xs))) f

    pub turns_start : Turns 0 c f₀
    turns_start = let e : n - 0 ≡ n = omega arith in rw e (left-start _ _ _ _)

    module _ (k : ℕ) (at : Cursor) (f : Filler) (g : Turns k at f) where
      pub turns_done : n ≤ k
          → (at ≡ moved c (times_size size n (drop c.place xs)) (joined table (times_in one size n (drop c.place xs))))
          × Fills c (joined table (times_in one size n (drop c.place xs))) f₀ f
      turns_done h =
          let z : n - k ≤ 0 = omega arith in
          left_done c _ _ f₀ at _ _ f g (times-size-none size (n - k) (drop at.place xs) z)
          (ap (λ l. joined table l) (times_none one size (n - k) (drop at.place xs) z))

      module _ (h : k < n) where
        size-first : times_size size (n - k) (drop at.place xs) ≡ size (drop at.place xs) + times_size size (n - (k + 1))
            (drop (at.place + size (drop at.place xs)) xs)
        size-first = times-size_cons size (n - k) (n - (k + 1)) (drop at.place xs) (turn_left n k h) ∙ rw drop-drop refl

        table-first : joined table (times_in one size (n - k) (drop at.place xs))
            ≡ join (table (one (drop at.place xs))) (joined table (times_in one size (n - (k + 1)) (drop (at.place + size (drop at.place xs)) xs)))
        table-first =
            ap (λ l. joined table l) (times_cons one size (n - k) (n - (k + 1)) (drop at.place xs) (turn_left n k h)) ∙ rw drop-drop refl

        pub turns_room : (xl : ℕ) → HasRoom c (times_size size n (drop c.place xs)) (joined table (times_in one size n (drop c.place xs))) xl f₀
            → HasRoom at (size (drop at.place xs)) (table (one (drop at.place xs))) xl f
        turns_room xl r =
            let q = left-room c _ _ f₀ at _ _ f g xl r in
            room-first at _ _ _ _ _ _ _ _ (rw (size-first, table-first) at q)

        pub turns_turn : (at' : Cursor) (f' : Filler) → at' ≡ moved at (size (drop at.place xs)) (table (one (drop at.place xs)))
            → Fills at (table (one (drop at.place xs))) f f' → Turns (k + 1) at' f'
        turns_turn at' f' m w =
            let place : at'.place ≡ at.place + size (drop at.place xs) = ap (λ (z : Cursor). z.place) m in
            subst
            (λ p. Left c (times_size size n (drop c.place xs)) (joined table (times_in one size n (drop c.place xs))) f₀
            at' (times_size size (n - (k + 1)) (drop p xs)) (joined table (times_in one size (n - (k + 1)) (drop p xs))) f')
            (sym place)
            (left-turn c _ _ f₀ at _ _ f g _ _ _ _ size-first table-first at' f' m w)

  -- pieces up to the end of the bytes
  module _ (grows : (ys : List ℕ) → 0 < size ys) where
    abbrev pub ToEnd : Cursor → Filler → Type 0
    ToEnd at f =
        Left c (fill_size size (drop c.place xs)) (joined table (fill_in one size (drop c.place xs))) f₀
        at (fill_size size (drop at.place xs)) (joined table (fill_in one size (drop at.place xs))) f

    pub end-start : ToEnd c f₀
    end-start = left-start _ _ _ _

    module _ (at : Cursor) (f : Filler) (g : ToEnd at f) where
      pub end_done : length xs ≤ at.place
          → (at ≡ moved c (fill_size size (drop c.place xs)) (joined table (fill_in one size (drop c.place xs))))
          × Fills c (joined table (fill_in one size (drop c.place xs))) f₀ f
      end_done h =
          let z : length (drop at.place xs) ≤ 0 = omega (arith, length-drop at.place xs) in
          left_done c _ _ f₀ at _ _ f g (fill-size-none size (drop at.place xs) z)
          (ap (λ l. joined table l) (fill_none one size (drop at.place xs) z))

      module _ (h : at.place < length xs) where
        end-size : fill_size size (drop at.place xs) ≡ size (drop at.place xs) + fill_size size (drop (at.place + size (drop at.place xs)) xs)
        end-size =
            fill-size_cons size grows (drop at.place xs) (omega (arith, length-drop at.place xs))
            ∙ ap (λ l. size (drop at.place xs) + fill_size size l) (drop-drop (size (drop at.place xs)) at.place xs)

        end-table : joined table (fill_in one size (drop at.place xs))
            ≡ join (table (one (drop at.place xs))) (joined table (fill_in one size (drop (at.place + size (drop at.place xs)) xs)))
        end-table =
            ap (λ l. joined table l) (fill_cons one size grows (drop at.place xs) (omega (arith, length-drop at.place xs)))
            ∙ ap (λ l. join (table (one (drop at.place xs))) (joined table (fill_in one size l))) (drop-drop (size (drop at.place xs)) at.place xs)

        pub end-room : (xl el : ℕ) → Room c (fill_size size (drop c.place xs)) (joined table (fill_in one size (drop c.place xs))) xl
            (length f₀.numbers.now) el (length f₀.bytes.now)
            → Room at (size (drop at.place xs)) (table (one (drop at.place xs))) xl (length f.numbers.now) el (length f.bytes.now)
        end-room xl el r =
            let q = left-room-flat c _ _ f₀ at _ _ f g xl el r in
            room-first at _ _ _ _ _ _ _ _ (rw (end-size, end-table) at q)

        pub end-turn : (at' : Cursor) (f' : Filler) → at' ≡ moved at (size (drop at.place xs)) (table (one (drop at.place xs)))
            → Fills at (table (one (drop at.place xs))) f f' → ToEnd at' f'
        end-turn at' f' m w =
            let place : at'.place ≡ at.place + size (drop at.place xs) = ap (λ (z : Cursor). z.place) m in
            subst
            (λ p. Left c (fill_size size (drop c.place xs)) (joined table (fill_in one size (drop c.place xs))) f₀
            at' (fill_size size (drop p xs)) (joined table (fill_in one size (drop p xs))) f')
            (sym place)
            (left-turn c _ _ f₀ at _ _ f g _ _ _ _ end-size end-table at' f' m w)

-- what each of the pieces that are left keeps
module _ (ok : List ℕ → Type 0) (size : List ℕ → ℕ) (n : ℕ) (xs : List ℕ) where
  pub each_start : (p : ℕ) → Each ok size n (drop p xs) → Each ok size (n - 0) (drop p xs)
  each_start p e = let q : n - 0 ≡ n = omega arith in rw q e

  module _ (k p : ℕ) (h : k < n) (e : Each ok size (n - k) (drop p xs)) where
    both : ok (drop p xs) × Each ok size (n - (k + 1)) (drop (size (drop p xs)) (drop p xs))
    unfolding Each
    both = rw (turn_left n k h) at e

    pub each_turn : ok (drop p xs)
    each_turn = both.0

    pub each_next : (q : ℕ) → q ≡ p + size (drop p xs) → Each ok size (n - (k + 1)) (drop q xs)
    each_next q m = rw (m, ← drop-drop (size (drop p xs)) p xs) both.1
