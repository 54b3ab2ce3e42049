-- What each of some entries gives, entry by entry, for any f; and what one entry gives as a hit.
use mathlib.Core.Bool.{true}
use mathlib.Core.List.{List, [], ◌∷◌, ◌++◌}
use mathlib.Core.Path.{◌≡◌, refl, sym, ap, ◌∙◌}
use Prim.Native.Nat.{ℕ, suc, ◌+◌, ◌*◌, ◌≤◌}
use borrow.Author.Tests.{eq-eqb, ne_eqb, le-leb}
use lib.Dec.{eqb, leb}
use lib.ListN.{length, length-append}
use lib.Seq.{sets}
use native.Mathlib.Numerals.{add-one}
use native.Mathlib.Omega.{arith}
use Rattle.index.proofs.Laws.Writing.{Writing, fits, turn}
use Rattle.layout.specs.Index.Selecting.{each, pick_entry, entry_row}
use Rattle.layout.specs.declared.Entry.{Entry}
use Rattle.laws.proofs.Base.Lists.{cond_both}

module _ (f : ℕ → Entry → List ℕ) (i : ℕ) (rest : List Entry) where
  pub each_turn : (e : Entry) (more : List Entry) → rest ≡ e ∷ more → each f i rest ≡ f i e ++ each f (i + 1) more
  unfolding each
  each_turn e more is = rw (is, add-one i)

  -- the same for a loop that counts
  pub count_turn : (e : Entry) (more : List Entry) → rest ≡ e ∷ more → (s : ℕ) → s ≡ length (f i e)
      → length (each f i rest) ≡ s + length (each f (i + 1) more)
  count_turn e more is s h = ap length (each_turn e more is) ∙ length-append (f i e) (each f (i + 1) more) ∙ rw h refl

pub each_done : (f : ℕ → Entry → List ℕ) (i : ℕ) (rest : List Entry) → length rest ≤ 0 → each f i rest ≡ []
unfolding each
each_done f i [] h = refl
each_done f i (e ∷ rest) h = absurd (omega arith)

-- a hit has three numbers, and what is no hit none
module _ (code i : ℕ) (e : Entry) where
  pub hit-row : e.code ≡ code → pick_entry code i e ≡ i ∷ e.place ∷ e.localisation ∷ []
  hit-row h = rw (eq-eqb e.code code h)

  pub no_row : (e.code ≡ code → ⊥) → pick_entry code i e ≡ []
  no_row h = rw (ne_eqb e.code code h)

-- three numbers an entry
rows_length : (i : ℕ) (es : List Entry) → length (each entry_row i es) ≡ 3 * length es
unfolding each
rows_length i [] = refl
rows_length i (e ∷ es) = let r = rows_length (suc i) es in omega arith

pub all_rows : (es : List Entry) (n : ℕ) → length es ≡ n → 3 * n ≡ length (each entry_row 0 es)
all_rows es n h = sym (rows_length 0 es ∙ ap (λ m. 3 * m) h)

-- one turn of a loop that puts what each entry gives: `rest` are the entries from entry i on, and e is the first of them
module _ (f : ℕ → Entry → List ℕ) (p₀ : List ℕ) (w₀ : ℕ) (all p : List ℕ) (w i : ℕ) (rest : List Entry) (g : Writing p₀ w₀ all p w (each f i rest))
    (e : Entry) (more : List Entry) (is : rest ≡ e ∷ more) where
  pub each_fits : w + length (f i e) ≤ length p
  each_fits = fits p₀ w₀ all p w (each f i rest) g (f i e) (each f (i + 1) more) (each_turn f i rest e more is)

  pub each_on : (p' : List ℕ) (w' : ℕ) → p' ≡ sets p w (f i e) → w' ≡ w + length (f i e) → Writing p₀ w₀ all p' w' (each f (i + 1) more)
  each_on = turn p₀ w₀ all p w (each f i rest) g (f i e) (each f (i + 1) more) (each_turn f i rest e more is)

-- three numbers for each entry are enough
picks_most : (code i : ℕ) (es : List Entry) → length (each (pick_entry code) i es) ≤ 3 * length es
unfolding each
picks_most code i [] = omega arith
picks_most code i (e ∷ es) =
    let row : List ℕ = i ∷ e.place ∷ e.localisation ∷ [] in
    let one : length (pick_entry code i e) ≤ 3 = cond_both (λ l. length l ≤ 3) (eqb e.code code) row [] (λ _. omega arith) (λ _. omega arith) in
    omega (arith, one, picks_most code (suc i) es, length-append (pick_entry code i e) (each (pick_entry code) (suc i) es))

pub room_for_all : (code : ℕ) (es : List Entry) (n room : ℕ) → length es ≡ n → 3 * n ≤ room → true ≡ leb (length (each (pick_entry code) 0 es)) room
room_for_all code es n room e h = sym (le-leb (length (each (pick_entry code) 0 es)) room (omega (arith, e, picks_most code 0 es)))
