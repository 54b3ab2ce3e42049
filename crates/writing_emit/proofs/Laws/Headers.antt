-- The header of a record in pass 2, over plain variables: what the code asks and what it has done.
use mathlib.Core.List.{List, ◌++◌}
use mathlib.Core.Path.{◌≡◌, refl, ap, sym, ◌∙◌}
use Prim.Native.Nat.{ℕ, ◌+◌, ◌-◌, ◌≤◌, ◌<◌, ◌^◌}
use lib.ListN.{drop, get_or}
use lib.Seq.{sets, get_or-drop}
use native.Mathlib.Nat.{add-zero}
use Rattle.writing_emit.specs.Records.{lengths_of, names_of, reference_and_word, counts_of, first_points, header_of, RowFits}
use Rattle.layout.specs.Bytes.{bytes}
use Rattle.layout.specs.Shared.Mark.{points_of}
use Rattle.layout.specs.Shared.Row
use Rattle.layout.specs.Sheet.{Reference}
use Rattle.writing_emit.proofs.Laws.Moves.{sets_twice}

pub lengths_wrote : (o₀ o₁ o₂ o₃ : List ℕ) (w metric semantics : ℕ) → o₁ ≡ sets o₀ w (bytes 4 0x7FFF7FFF)
    → o₂ ≡ sets o₁ (w + 4) (bytes 4 (32 + metric + semantics))
    → o₃ ≡ sets o₂ (w + 8) (bytes 4 metric) → o₃ ≡ sets o₀ w (lengths_of metric semantics)
unfolding lengths_of
lengths_wrote o₀ o₁ o₂ o₃ w metric semantics e f g =
    let x = bytes 4 0x7FFF7FFF in
    let y = bytes 4 (32 + metric + semantics) in
    sets_twice o₀ o₂ o₃ w (x ++ y) (bytes 4 metric) (sets_twice o₀ o₁ o₂ w x y e f) g

-- the row that starts a list
module _ (ns : List ℕ) where
  pub names_wrote : (o₀ o₁ o₂ o₃ : List ℕ) (w : ℕ) → o₁ ≡ sets o₀ w (bytes 4 (get_or ns 0 0)) → o₂ ≡ sets o₁ (w + 4) (bytes 2 (get_or ns 1 0))
      → o₃ ≡ sets o₂ (w + 6) (bytes 2 (get_or ns 2 0)) → o₃ ≡ sets o₀ w (names_of ns)
  unfolding names_of
  names_wrote o₀ o₁ o₂ o₃ w e f g =
      let x = bytes 4 (get_or ns 0 0) in
      let y = bytes 2 (get_or ns 1 0) in
      let z = bytes 2 (get_or ns 2 0) in
      sets_twice o₀ o₂ o₃ w (x ++ y) z (sets_twice o₀ o₁ o₂ w x y e f) g

  pub reference-wrote : (o₀ o₁ o₂ o₃ o₄ o₅ : List ℕ) (w : ℕ) (r : Reference) → r ≡ Row.reference_of (get_or ns 3 0)
      → o₁ ≡ sets o₀ w (bytes 1 r.byte20) → o₂ ≡ sets o₁ (w + 1) (bytes 1 r.byte21) → o₃ ≡ sets o₂ (w + 2) (bytes 1 r.byte22)
      → o₄ ≡ sets o₃ (w + 3) (bytes 1 (get_or ns 4 0))
      → o₅ ≡ sets o₄ (w + 4) (bytes 4 (get_or ns 5 0)) → o₅ ≡ sets o₀ w (reference_and_word ns)
  unfolding reference_and_word
  reference-wrote o₀ o₁ o₂ o₃ o₄ o₅ w r i e f g h k =
      let a = bytes 1 r.byte20 in
      let b = bytes 1 r.byte21 in
      let c = bytes 1 r.byte22 in
      let d = bytes 1 (get_or ns 4 0) in
      let two = sets_twice o₀ o₁ o₂ w a b e f in
      let three = sets_twice o₀ o₂ o₃ w (a ++ b) c two g in
      let four = sets_twice o₀ o₃ o₄ w (a ++ b ++ c) d three h in
      sets_twice o₀ o₄ o₅ w (a ++ b ++ c ++ d) (bytes 4 (get_or ns 5 0)) four k ∙ rw i refl

  pub counts_wrote : (o₀ o₁ o₂ : List ℕ) (w points : ℕ) → points ≡ points_of (get_or ns Row.mark 0) (get_or ns first_points 0)
      → o₁ ≡ sets o₀ w (bytes 2 (get_or ns 6 0 - 1)) → o₂ ≡ sets o₁ (w + 2) (bytes 2 points) → o₂ ≡ sets o₀ w (counts_of ns)
  unfolding counts_of
  counts_wrote o₀ o₁ o₂ w points p e f =
      sets_twice o₀ o₁ o₂ w (bytes 2 (get_or ns 6 0 - 1)) (bytes 2 points) e f ∙ rw p refl

  pub header-wrote : (o₀ o₁ o₂ o₃ o₄ : List ℕ) (w metric semantics : ℕ) → o₁ ≡ sets o₀ w (lengths_of metric semantics)
      → o₂ ≡ sets o₁ (w + 12) (names_of ns)
      → o₃ ≡ sets o₂ (w + 20) (reference_and_word ns) → o₄ ≡ sets o₃ (w + 28) (counts_of ns)
      → o₄ ≡ sets o₀ w (header_of ns metric semantics)
  unfolding header_of lengths_of names_of reference_and_word counts_of
  header-wrote o₀ o₁ o₂ o₃ o₄ w metric semantics e f g h =
      let a = lengths_of metric semantics in
      let b = names_of ns in
      let c = reference_and_word ns in
      let two = sets_twice o₀ o₁ o₂ w a b e f in
      let three = sets_twice o₀ o₂ o₃ w (a ++ b) c two g in
      sets_twice o₀ o₃ o₄ w (a ++ b ++ c) (counts_of ns) three h
