-- The ways out of an item, over plain variables.
use mathlib.Core.Bool.{Bool, true, false, not, ◌||◌, ◌&&◌}
use mathlib.Core.List.{List, [], ◌∷◌}
use mathlib.Core.Path.{◌≡◌, refl, sym, ap, ◌∙◌}
use Prim.Native.Nat.{ℕ, ◌+◌, ◌-◌, ◌%◌, ◌≤◌, ◌<◌}
use borrow.Author.Tests.{le-leb, lt-leb, leb-true}
use lib.Dec.{eqb, leb}
use lib.ListN.{length, take, drop, length-drop}
use lib.Seq.{length-take-le}
use native.Mathlib.Nat.{add-zero}
use native.Mathlib.Omega.{arith}
use Rattle.reading_check.proofs.Laws.Steps.{step_on, step_stop}
use Rattle.reading_check.specs.Items.{shape_of, Shaped, shape_checks, value_checks, value_walk}
use Rattle.reading_check.specs.Tally.{tally, shown}
use Rattle.reading_check.specs.declared.items.Shape.{Shape}
use Rattle.fields.proofs.Laws.Chain.{step_holds}
use Rattle.fields.specs.Checks.{checked}
use Rattle.layout.specs.Answers.Enums.{refusal}
use Rattle.layout.specs.Bytes.{number, zeros}
use Rattle.layout.specs.Reading.Items.{item_checks, item_walk, kind_in, value_at, value_size, item_size, item_in}
use Rattle.layout.specs.Shared.Types.{Kind, narrow, wide, long, integer, double, unknown, is_long, good_length, value_length, closing, is_closed}
use Rattle.layout.specs.Refusals.{LENGTH, SEMANTIC, TEXT}
use Rattle.layout.specs.Walk.{up_to, must, checks, ◌>>◌, ends, piece}
use Rattle.layout.specs.Writing.Tables.{flatten_item}
use Rattle.layout.specs.declared.Refusal.{Refusal}
use Rattle.laws.proofs.Base.Lists.{last_of}
use Rattle.laws.proofs.Base.Readers.{Sized}
use Rattle.laws.proofs.Base.Walks.{given_inj, checks_case, checks_append}
use Rattle.laws.proofs.Encoding.Kinds.{good-is, closing_under}
use Rattle.reading_check.specs.declared.tally.Tally.{Tally}
use Rattle.std.specs.Prelude.{Result, Ok, Err}

never : false ≡ true → ⊥
never e = let z : ◌≡◌ {A = ℕ} 0 1 = cc in omega arith

at_long : (k : Kind) → is_long k ≡ true → value_at k ≡ 8
at_long narrow e = absurd (never e)
at_long wide e = absurd (never e)
at_long long e = refl
at_long (integer n) e = absurd (never e)
at_long double e = absurd (never e)
at_long unknown e = absurd (never e)

size-long : (k : Kind) (scale stated : ℕ) → is_long k ≡ true → value_length k scale stated ≡ stated
size-long narrow scale stated e = absurd (never e)
size-long wide scale stated e = absurd (never e)
size-long long scale stated e = refl
size-long (integer n) scale stated e = absurd (never e)
size-long double scale stated e = absurd (never e)
size-long unknown scale stated e = absurd (never e)

size-short : (k : Kind) (scale stated : ℕ) → is_long k ≡ false → value_length k scale stated ≡ value_length k scale 0
size-short narrow scale stated e = refl
size-short wide scale stated e = refl
size-short long scale stated e = absurd (never (sym e))
size-short (integer n) scale stated e = refl
size-short double scale stated e = refl
size-short unknown scale stated e = refl

module _ (xs : List ℕ) (k : Shape) (s : Shaped xs k) where
  pub long-there : k.at ≤ length xs → k.long ≡ true → 8 ≤ length xs
  long-there l e =
      let a : k.at ≡ value_at (kind_in xs) = ap (λ (z : Shape). z.at) s.is in
      let f : is_long (kind_in xs) ≡ true = sym (ap (λ (z : Shape). z.long) s.is) ∙ e in
      omega (arith, at_long (kind_in xs) f)

  pub size-stated : (n : ℕ) → n ≡ number 4 (drop 4 xs) → k.long ≡ true → n ≡ value_size xs
  size-stated n h e =
      let f : is_long (kind_in xs) ≡ true = sym (ap (λ (z : Shape). z.long) s.is) ∙ e in
      h ∙ sym (size-long (kind_in xs) (number 1 (drop 3 xs)) (number 4 (drop 4 xs)) f)

  pub size-known : k.long ≡ false → k.size ≡ value_size xs
  size-known e =
      let f : is_long (kind_in xs) ≡ false = sym (ap (λ (z : Shape). z.long) s.is) ∙ e in
      ap (λ (z : Shape). z.size) s.is ∙ sym (size-short (kind_in xs) (number 1 (drop 3 xs)) (number 4 (drop 4 xs)) f)

module _ (y p : ℕ) (xs : List ℕ) (k : Shape) (s : Shaped xs k) (size : ℕ) (e : size ≡ value_size xs) where
  at-is : k.at ≡ value_at (kind_in xs)
  at-is = ap (λ (z : Shape). z.at) s.is

  closing-is : k.closing ≡ closing (kind_in xs)
  closing-is = ap (λ (z : Shape). z.closing) s.is

  abbrev tests : Bool
  tests = not k.long || (eqb (size % 2) 0 && leb 2 size)

  length-is : good_length (kind_in xs) (value_size xs) ≡ tests
  length-is = good-is (kind_in xs) (value_size xs) ∙ rw (← e, ap (λ (z : Shape). z.long) s.is) refl

  pub value-bad : tests ≡ false → Err (refusal SEMANTIC (p + 4) 0) ≡ shown (tally flatten_item) y (value_walk p xs)
  unfolding value_walk value_checks
  value-bad h = simp (length-is, h)

  module _ (h : tests ≡ true) where
    pub value-closes : k.closing ≤ size
    value-closes = rw (closing-is, e) (closing_under (kind_in xs) (number 1 (drop 3 xs)) (number 4 (drop 4 xs)) (value_size xs) refl (length-is ∙ h))

    pub value-short : length xs < k.at + size → Err (refusal LENGTH p 0) ≡ shown (tally flatten_item) y (value_walk p xs)
    unfolding value_walk value_checks
    value-short l =
        let m : leb (value_at (kind_in xs) + value_size xs) (length xs) ≡ false =
        lt-leb (value_at (kind_in xs) + value_size xs) (length xs) (omega (arith, at-is, e)) in
        simp (length-is, h, m, add-zero)

    module _ (l : k.at + size ≤ length xs) where
      fits : leb (value_at (kind_in xs) + value_size xs) (length xs) ≡ true
      fits = le-leb (value_at (kind_in xs) + value_size xs) (length xs) (omega (arith, at-is, e))

      shut : is_closed (kind_in xs) (item_in xs).value ≡ zeros (take k.closing (drop (k.at + size - k.closing) xs))
      shut =
          rw (closing-is, at-is, e)
          (ap zeros (last_of xs (value_at (kind_in xs)) (value_size xs) (closing (kind_in xs)) (omega (arith, value-closes, closing-is, e))
          (omega (arith, at-is, e))))

      pub value_open : zeros (take k.closing (drop (k.at + size - k.closing) xs)) ≡ false
          → Err (refusal TEXT (p + (k.at + size - k.closing)) 0) ≡ shown (tally flatten_item) y (value_walk p xs)
      unfolding value_walk value_checks
      value_open z = simp (length-is, h, fits, shut, z) (rw (at-is, e, closing-is) refl)

      pub value-fine : zeros (take k.closing (drop (k.at + size - k.closing) xs)) ≡ true
          → Ok (record { used = k.at + size; numbers = 4; elements = 0; bytes = size }) ≡ shown (tally flatten_item) y (value_walk p xs)
      unfolding value_walk value_checks flatten_item
      value-fine z =
          let n : length (take (value_size xs) (drop (value_at (kind_in xs)) xs)) ≡ value_size xs =
          length-take-le _ _ (omega (arith, length-drop (value_at (kind_in xs)) xs, at-is, e)) in
          simp (length-is, h, fits, shut, z) (simp n (rw (at-is, e) refl))

module _ (y p : ℕ) (xs : List ℕ) where
  pub item-short : length xs < 4 → Err (refusal LENGTH p 0) ≡ shown (tally flatten_item) y (item_walk p xs)
  unfolding item_walk
  item-short h = simp (lt-leb 4 (length xs) h, add-zero)

  module _ (l : 4 ≤ length xs) (k : Shape) (e : k ≡ shape_of (kind_in xs) (number 1 (drop 3 xs))) where
    halves : item_walk p xs ≡ (checks p (shape_checks k (length xs)) >> value_walk p xs)
    unfolding item_walk item_checks value_walk value_checks
    halves =
        rw (e, le-leb 4 (length xs) l)
        (checks_append p (shape_checks (shape_of (kind_in xs) (number 1 (drop 3 xs))) (length xs)) (value_checks xs) (ends (piece (item_in xs) (item_size xs))))

    module _ (r : Result (Unit {0}) Refusal) (n : r ≡ checked y p (shape_checks k (length xs))) where
      pub item_on : r ≡ (Ok tt) → (m : Result Tally Refusal) → m ≡ shown (tally flatten_item) y (value_walk p xs) → m ≡ shown (tally flatten_item) y (item_walk p xs)
      item_on f m g = g ∙ sym (ap (shown (tally flatten_item) y) halves ∙ step_on y (tally flatten_item) p (shape_checks k (length xs)) (value_walk p xs) r n f)

      pub item-stop : (q : Refusal) → r ≡ Err q → Err q ≡ shown (tally flatten_item) y (item_walk p xs)
      item-stop q f = step_stop y (tally flatten_item) p (shape_checks k (length xs)) (value_walk p xs) r n q f ∙ sym (ap (shown (tally flatten_item) y) halves)

      pub item_starts : r ≡ (Ok tt) → k.at ≤ length xs
      item_starts f = leb-true k.at (length xs) (step_holds y p (shape_checks k (length xs)) r n tt f).1.1.0

-- an item takes four bytes at least, and no more than there are
pub item-sized : (y : ℕ) → Sized (up_to y) item_walk
unfolding item_walk item_checks
item-sized y =
    record {
      sized = λ p xs v e.
          checks_case (up_to y) p (must (leb 4 (length xs)) LENGTH 0 ∷ []) (checks p (item_checks xs) >> ends (piece (item_in xs) (item_size xs))) v e λ h a f.
          checks_case (up_to y) p (item_checks xs) (ends (piece (item_in xs) (item_size xs))) v f λ g b i.
          let is : piece (item_in xs) (item_size xs) ≡ v = given_inj i in
          let l : item_size xs ≤ length xs = leb-true (item_size xs) (length xs) g.1.1.1.1.0 in
          rw (← is) (omega (arith, l), l);
    }
