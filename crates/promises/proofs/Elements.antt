-- Every element of a sheet that is read has an answer (`elements-answered`), and `coordinate_of` refuses none that has (`never_refused`). The elements
-- of a fine part are as wide as its reference bytes say, point by point, and by the same bytes the calls go.
use Prim.Native.Nat.{ℕ, zero, suc, ◌^◌, ◌<◌}
use Rattle.layout.specs.Answers.Calls.{reading}
use Rattle.layout.specs.Answers.Coordinates.{planar_stored, height_stored, fitting, element_in, element_of, measured, measured_by, measure_of}
use Rattle.layout.specs.Bytes.{All, Bytes, FitAll, repeat}
use Rattle.layout.specs.Layout.Fine.{FinePart, FineSubobject, FineRecord}
use Rattle.layout.specs.Shared.Reference.{element_size, floating, three_dimensions}
use Rattle.layout.specs.Shared.Row.{reference_number}
use Rattle.layout.specs.Shared.Widths.{planar, height, element_widths}
use Rattle.layout.specs.Sheet.{Part, Reference, Record, Sheet}
use Rattle.layout.specs.Walk.{given}
use Rattle.layout.specs.declared.Dimension.TheVariants.{North, East, Height}
use Rattle.layout.specs.declared.Dimension.{Dimension}
use Rattle.layout.specs.declared.Refusal.{Refusal}
use Rattle.layout.specs.declared.Stored.{Stored}
use Rattle.laws.proofs.Called.{reading-sound}
use Rattle.laws.proofs.Writing.Records.{bytes-of-number}
use Rattle.meanings.specs.Coordinates.{coordinate_in}
use Rattle.meanings.specs.declared.coordinates.PointNumber.{PointNumber}
use Rattle.promises.proofs.Contracts.{Coordinates}
use borrow.Author.Tests.{lt-ltb}
use mathlib.Core.Bool.{Bool, true, false}
use mathlib.Core.List.{List, [], ◌∷◌}
use mathlib.Core.Path.{◌≡◌, refl, sym, ap, ◌∙◌}
use native.Mathlib.Omega.{arith}
use Rattle.std.specs.Prelude.{Ok}
use Rattle.std.specs.Prelude.{Result, Err}

-- the element of a reference number, a dimension and bits
abbrev pub Answered : ℕ → Dimension → ℕ → Type 0
Answered reference d bits = (e : Stored) × (element_of reference d bits ≡ Ok e)

-- so many points, in two dimensions or in three, each of whose elements is answered in its dimension, and nothing after them
abbrev pub Points : ℕ → Bool → ℕ → List ℕ → Type 0
Points reference three zero [] = Unit {0}
Points reference three zero (x ∷ es) = ⊥
Points reference three (suc n) [] = ⊥
Points reference three (suc n) (x ∷ []) = ⊥
Points reference false (suc n) (x ∷ y ∷ es) = Answered reference North x × Answered reference East y × Points reference false n es
Points reference true (suc n) (x ∷ y ∷ []) = ⊥
Points reference true (suc n) (x ∷ y ∷ h ∷ es) =
    Answered reference North x × Answered reference East y × Answered reference Height h × Points reference true n es

-- the elements of a part of a record, and of all its parts
abbrev pub PartAnswered : Reference → Part → Type 0
PartAnswered r a = Points (reference_number r) (three_dimensions r) a.points a.elements

abbrev pub RecordAnswered : Record → Type 0
RecordAnswered r = PartAnswered r.reference r.first × All (PartAnswered r.reference) r.subobjects

fits : (width bits : ℕ) (e : Stored) → bits < 256 ^ width → fitting width bits e ≡ Ok e
fits width bits e h = rw (lt-ltb bits (256 ^ width) h) refl

made : (rest : List ℕ) (d : Dimension) (e : Stored) (q : Refusal) → ¬ (Err q ≡ coordinate_in (Ok (measured rest d e)))
unfolding coordinate_in
made rest d e q h = let x : ◌≡◌ {A = ℕ} 0 1 = cc in omega arith

-- such an element is a coordinate or a height, and no refusal, whatever the sheet's units are
pub never_refused : (rest : List ℕ) (reference : ℕ) (d : Dimension) (bits : ℕ) → Answered reference d bits
    → (r : Result PointNumber Refusal) → Coordinates rest reference d bits r → (q : Refusal) → ¬ (r ≡ Err q)
unfolding measure_of
never_refused rest reference d bits a r c q e = made rest d a.0 q (sym e ∙ c ∙ ap (λ x. coordinate_in (measured_by rest d x)) a.1)

module _ (r : Reference) (b20 : r.byte20 < 256) (b21 : r.byte21 < 256) (b22 : r.byte22 < 256) where
  -- the three bytes as one number, as the table has them, say what they say themselves
  own : (d : Dimension) (bits : ℕ) → element_of (reference_number r) d bits ≡ element_in r d bits
  unfolding element_of
  own d bits =
      let small : reference_number r < 16777216 = omega (arith, b20, b21, b22) in
      rw (lt-ltb (reference_number r) 16777216 small) (ap (λ q. element_in q d bits) (bytes-of-number r b20 b21 b22))

  north : (x : ℕ) → x < 256 ^ planar (element_size r) (floating r) → Answered (reference_number r) North x
  north x h = (planar_stored (element_size r) (floating r) x, own North x ∙ fits (planar (element_size r) (floating r)) x _ h)

  east : (x : ℕ) → x < 256 ^ planar (element_size r) (floating r) → Answered (reference_number r) East x
  east x h = (planar_stored (element_size r) (floating r) x, own East x ∙ fits (planar (element_size r) (floating r)) x _ h)

  high : three_dimensions r ≡ true → (x : ℕ) → x < 256 ^ height (planar (element_size r) (floating r)) → Answered (reference_number r) Height x
  high three x h =
      let width = height (planar (element_size r) (floating r)) in
      (height_stored width x, own Height x ∙ rw three (fits width x (height_stored width x) h))

  points : (three : Bool) → three_dimensions r ≡ three → (n : ℕ) (es : List ℕ) → FitAll (repeat n (element_widths (element_size r) (floating r) three)) es
      → Points (reference_number r) three n es
  points three e zero [] f = tt
  points three e zero (x ∷ es) f = f
  points false e (suc n) [] f = f
  points false e (suc n) (x ∷ []) f = f.1
  points false e (suc n) (x ∷ y ∷ es) f = (north x f.0, east y f.1.0, points false e n es f.1.1)
  points true e (suc n) [] f = f
  points true e (suc n) (x ∷ []) f = f.1
  points true e (suc n) (x ∷ y ∷ []) f = f.1.1
  points true e (suc n) (x ∷ y ∷ h ∷ es) f = (north x f.0, east y f.1.0, high e h f.1.1.0, points true e n es f.1.1.1)

  part : (a : Part) → FinePart r a → PartAnswered r a
  part a f = points (three_dimensions r) refl a.points a.elements f.elements

  parts : (m : Bool) (l : List Part) → All (FineSubobject r m) l → All (PartAnswered r) l
  parts m [] f = tt
  parts m (a ∷ l) f = (part a f.0.part, parts m l f.1)

records : (l : List Record) → All FineRecord l → All RecordAnswered l
records [] f = tt
records (r ∷ l) f =
    let k = f.0 in
    let within = part r.reference k.byte20 k.byte21 k.byte22 r.first k.first in
    ((within, parts r.reference k.byte20 k.byte21 k.byte22 _ r.subobjects k.subobjects), records l f.1)

pub elements-answered : (y : ℕ) (s : List ℕ) → Bytes s → (t : Sheet) → reading y s ≡ given t → All RecordAnswered t.records
elements-answered y s bs t e = records t.records (reading-sound y s t bs e).fine.records
