-- Where a walk gives a value, the value is the reading without tests, and the piece stays within its bytes.
use mathlib.Core.Bool.{Bool, true, false, ◌||◌}
use mathlib.Core.List.{List, [], ◌∷◌}
use mathlib.Core.Path.{◌≡◌, refl, sym, ap, ap₂, subst, ◌∙◌}
use Prim.Native.Nat.{ℕ, zero, suc, ◌+◌, ◌*◌, ◌≤◌}
use borrow.Author.Tests.{leb-true}
use lib.Dec.{eqb, leb}
use lib.ListN.{length, drop, length-drop}
use native.Mathlib.Omega.{arith}
use Rattle.reading_fill.specs.Parts.{text_in, text_size, part_in, part_size, count_in, subobject_in, subobject_size}
use Rattle.fields.specs.Shapes.{shape_of}
use Rattle.reading_fill.specs.Pieces.{times_in, times_size, filling_in, filling_size, fill_in, fill_size, Each}
use Rattle.layout.specs.Bytes.{number, number_in}
use Rattle.layout.specs.Fields.Item as ItemField
use Rattle.layout.specs.Fields.Subobject
use Rattle.layout.specs.Reading.Items.{item_in, item_size, item_checks, item_walk}
use Rattle.layout.specs.Reading.Parts.{text_walk, part_walk, subobject_walk}
use Rattle.layout.specs.Refusals.{LENGTH, TEXT, COUNT}
use Rattle.layout.specs.Shared.Reference.{text_in_metric}
use Rattle.layout.specs.Shared.Widths.{point_size}
use Rattle.layout.specs.Sheet.{Reference}
use Rattle.layout.specs.Walk.{given, answer, must, Piece, piece, Reader, times, filling, fill}
use Rattle.laws.proofs.Base.Valued.{Valued}
use Rattle.laws.proofs.Base.Walks.{given_inj, bind_case, checks_case}

module _ {A : Type 0} (al : ℕ → Bool) (r : Reader A) (one : List ℕ → A) (size : List ℕ → ℕ) (R : Valued al r one size) where
  times-value : (n p : ℕ) (xs : List ℕ) (v : Piece (List A)) → answer al (times n r p xs) ≡ given v
      → (v ≡ piece (times_in one size n xs) (times_size size n xs)) × (times_size size n xs ≤ length xs)
  unfolding times_in times_size
  times-value zero p xs v e = (sym (given_inj e), omega arith)
  times-value (suc n) p xs v e =
      bind_case al (r p xs) _ v e λ t h i.
      bind_case al (times n r (p + t.size) (drop t.size xs)) _ v i λ u j g.
      let a = R.value p xs t h in
      let b = times-value n (p + t.size) (drop t.size xs) u j in
      let s : t.size ≡ size xs = ap (λ z. z.size) a.0 in
      let c : u ≡ piece (times_in one size n (drop (size xs) xs)) (times_size size n (drop (size xs) xs)) = rw s at b.0 in
      let f : times_size size n (drop (size xs) xs) ≤ length (drop (size xs) xs) = rw s at b.1 in (
        sym (given_inj g) ∙ ap₂ (λ (x : Piece A) (y : Piece (List A)). piece (x.value ∷ y.value) (x.size + y.size)) a.0 c,
        omega (arith, f, a.1, length-drop (size xs) xs),
      )

  pub times_valued : (n : ℕ) → Valued al (times n r) (times_in one size n) (times_size size n)
  times_valued n = record { value = times-value n }

  -- what each piece keeps, each of n keeps
  pub times-each : (ok : List ℕ → Type 0) → ((p : ℕ) (xs : List ℕ) (v : Piece A) → answer al (r p xs) ≡ given v → ok xs)
      → (n p : ℕ) (xs : List ℕ) (v : Piece (List A)) → answer al (times n r p xs) ≡ given v → Each ok size n xs
  unfolding Each
  times-each ok keeps zero p xs v e = tt
  times-each ok keeps (suc n) p xs v e =
      bind_case al (r p xs) _ v e λ t h i.
      bind_case al (times n r (p + t.size) (drop t.size xs)) _ v i λ u j g.
      let s : t.size ≡ size xs = ap (λ z. z.size) (R.value p xs t h).0 in
      (keeps p xs t h, subst (λ k. Each ok size n (drop k xs)) s (times-each ok keeps n (p + t.size) (drop t.size xs) u j))

  filling-value : (f p : ℕ) (xs : List ℕ) (l : List A) → answer al (filling r f p xs) ≡ given l
      → (l ≡ filling_in one size f xs) × (filling_size size f xs ≤ length xs)
  unfolding filling_in filling_size
  filling-value zero p xs l e = (sym (given_inj e), omega arith)
  filling-value (suc f) p [] l e = (sym (given_inj e), omega arith)
  filling-value (suc f) p (x ∷ xs) l e =
      bind_case al (r p (x ∷ xs)) _ l e λ t h i.
      bind_case al (filling r f (p + t.size) (drop t.size (x ∷ xs))) _ l i λ m j g.
      let a = R.value p (x ∷ xs) t h in
      let b = filling-value f (p + t.size) (drop t.size (x ∷ xs)) m j in
      let s : t.size ≡ size (x ∷ xs) = ap (λ z. z.size) a.0 in
      let w : t.value ≡ one (x ∷ xs) = ap (λ z. z.value) a.0 in
      let c : m ≡ filling_in one size f (drop (size (x ∷ xs)) (x ∷ xs)) = subst (λ k. m ≡ filling_in one size f (drop k (x ∷ xs))) s b.0 in
      let d : filling_size size f (drop (size (x ∷ xs)) (x ∷ xs)) ≤ length (drop (size (x ∷ xs)) (x ∷ xs)) =
      subst (λ k. filling_size size f (drop k (x ∷ xs)) ≤ length (drop k (x ∷ xs))) s b.1 in
      (sym (given_inj g) ∙ ap₂ (λ y z. y ∷ z) w c, omega (arith, d, a.1, length-drop (size (x ∷ xs)) (x ∷ xs)))

  pub fill-value : (p : ℕ) (xs : List ℕ) (l : List A) → answer al (fill r p xs) ≡ given l → (l ≡ fill_in one size xs) × (fill_size size xs ≤ length xs)
  fill-value p xs l e = filling-value (length xs) p xs l e

pub item_valued : (al : ℕ → Bool) → Valued al item_walk item_in item_size
unfolding item_walk item_checks
item_valued al = record {
  value = λ p xs v e.
      checks_case al p (must (leb ItemField.size (length xs)) LENGTH 0 ∷ []) _ v e λ h y i.
      checks_case al p (item_checks xs) _ v i λ c z g.
      (sym (given_inj g), leb-true _ _ c.1.1.1.1.0);
}

pub text_valued : (al : ℕ → Bool) (b : Bool) → Valued al (text_walk b) (text_in b) (text_size b)
unfolding text_walk
text_valued al false = record { value = λ p xs v e. (sym (given_inj e), omega arith) }
text_valued al true = record {
  value = λ p xs v e.
      let n : ℕ = number 1 xs in
      checks_case al p (must (leb (n + 2) (length xs)) LENGTH 0 ∷ must (eqb (number 1 (drop (n + 1) xs)) 0) TEXT (n + 1) ∷ []) _ v e λ c y g.
      (sym (given_inj g), leb-true _ _ c.0);
}

pub part_valued : (al : ℕ → Bool) (r : Reference) (count : ℕ) → Valued al (part_walk r count) (part_in (shape_of r) count) (part_size (shape_of r) count)
unfolding part_walk part_in part_size
part_valued al r count = record {
  value = λ p xs v e.
      let size : ℕ = count * point_size r in
      checks_case al p (must (leb size (length xs)) LENGTH 0 ∷ []) _ v e λ c y i.
      bind_case al (text_walk (text_in_metric r) (p + size) (drop size xs)) _ v i λ t h g.
      let a = (text_valued al (text_in_metric r)).value (p + size) (drop size xs) t h in
      let f : size ≤ length xs = leb-true _ _ c.0 in
      (sym (given_inj g) ∙ rw a.0 refl, omega (arith, f, a.1, length-drop size xs));
}

pub subobject_valued : (al : ℕ → Bool) (r : Reference) (marked : Bool)
    → Valued al (subobject_walk r marked) (subobject_in (shape_of r)) (subobject_size (shape_of r))
unfolding subobject_walk subobject_in subobject_size
subobject_valued al r marked = record {
  value = λ p xs v e.
      let n1 : ℕ = number_in Subobject.n1 xs in
      checks_case al p (must (leb Subobject.size (length xs)) LENGTH 0 ∷ must (marked || eqb n1 0) COUNT (Subobject.n1).place ∷ []) _ v e λ c y i.
      bind_case al (part_walk r (count_in xs) (p + Subobject.size) (drop Subobject.size xs)) _ v i λ t h g.
      let a = (part_valued al r (count_in xs)).value (p + Subobject.size) (drop Subobject.size xs) t h in
      let f : Subobject.size ≤ length xs = leb-true _ _ c.0 in
      (sym (given_inj g) ∙ rw a.0 refl, omega (arith, f, a.1, length-drop Subobject.size xs));
}
