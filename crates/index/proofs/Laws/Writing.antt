-- A slice that is written piece by piece: one invariant for every loop, and two pieces one after the other.
use mathlib.Core.List.{List, [], ◌++◌}
use mathlib.Core.Path.{◌≡◌, refl, sym, ap, ◌∙◌}
use Prim.Native.Nat.{ℕ, ◌+◌, ◌≤◌}
use lib.ListN.{length, length-append}
use lib.Seq.{sets, length-sets}
use native.Mathlib.Omega.{arith}
use Rattle.fields.proofs.Laws.Put.{sets_append}

-- what is left to write onto the slice as it is, gives the whole on the slice as it came
pub record Writing (p₀ : List ℕ) (w₀ : ℕ) (all : List ℕ) (p : List ℕ) (w : ℕ) (rest : List ℕ) : Type 0 where
  pub same : length p ≡ length p₀
  pub room : w + length rest ≤ length p₀
  pub eq : sets p w rest ≡ sets p₀ w₀ all

module _ (p₀ : List ℕ) (w₀ : ℕ) (all : List ℕ) where
  pub start : (w : ℕ) (rest : List ℕ) → w ≡ w₀ → rest ≡ all → w₀ + length all ≤ length p₀ → Writing p₀ w₀ all p₀ w rest
  start w rest v e h = record { same = refl; room = omega (arith, ap length e); eq = rw (e, v) }

  module _ (p : List ℕ) (w : ℕ) (rest : List ℕ) (g : Writing p₀ w₀ all p w rest) where
    pub done : rest ≡ [] → p ≡ sets p₀ w₀ all
    done e = ap (λ l. sets p w l) (sym e) ∙ g.eq

    module _ (a more : List ℕ) (e : rest ≡ a ++ more) where
      pub fits : w + length a ≤ length p
      fits = omega (arith, g.same, g.room, ap length e, length-append a more)

      pub turn : (p' : List ℕ) (w' : ℕ) → p' ≡ sets p w a → w' ≡ w + length a → Writing p₀ w₀ all p' w' more
      turn p' w' d v =
          record {
            same = ap length d ∙ length-sets p w a ∙ g.same;
            room = omega (arith, g.room, ap length e, length-append a more);
            eq = rw (d, v) (sym (sets_append p w a more) ∙ ap (λ l. sets p w l) (sym e) ∙ g.eq);
          }

pub two : (p : List ℕ) (w : ℕ) (a p₁ : List ℕ) → p₁ ≡ sets p w a → (v : ℕ) (b p₂ : List ℕ) → p₂ ≡ sets p₁ v b → v ≡ w + length a → p₂ ≡ sets p w (a ++ b)
two p w a p₁ e v b p₂ f h = f ∙ rw (e, h) (sym (sets_append p w a b))
