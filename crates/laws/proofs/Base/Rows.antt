-- A row of fields that stand one after another: numbers, raw bytes, texts. What is read of them by their places is what is stored.
use mathlib.Core.Bool.{Bool, true}
use mathlib.Core.List.{List, [], ◌∷◌, ◌++◌, append_assoc}
use mathlib.Core.Path.{◌≡◌, refl, ap, sym, ◌∙◌, subst}
use Prim.Native.Nat.{ℕ, ◌+◌, ◌^◌, ◌≤◌, ◌<◌}
use native.Mathlib.Omega.{arith}
use lib.ListN.{length, take, drop, length-append, length-drop, take-append-drop}
use lib.Seq.{drop_at, drop-drop, take_at, length-take-le}
use Rattle.layout.specs.Bytes.{Bytes, Field, number, number_in, bytes_in, stored}
use Rattle.layout.specs.Shared.Texts.{text_of, tail_of, is_text_field, tailed, FineText, FineTail}
use Rattle.laws.proofs.Base.Lists.{all_take, all_drop}
use Rattle.laws.proofs.Base.Numbers.{length-bytes, number-bytes, number_lt, bytes-number}
use Rattle.laws.proofs.Base.Readers.{took_both}
use Rattle.laws.proofs.Base.Texts.{text_back, text_on, length-tailed}

-- a field, and whether it holds a number, raw bytes or a text with its tail
pub data Column : Type 0 where
  num raw text : Field → Column

abbrev pub field_of : Column → Field
field_of (num f) = f
field_of (raw f) = f
field_of (text f) = f

abbrev pub wide : Column → ℕ
wide k = (field_of k).width

abbrev pub Val : Column → Type 0
Val (num f) = ℕ
Val (raw f) = List ℕ
Val (text f) = List ℕ × List ℕ

abbrev pub Vals : List Column → Type 0
Vals [] = Unit {0}
Vals (k ∷ ks) = Val k × Vals ks

abbrev pub row_size : List Column → ℕ
row_size [] = 0
row_size (k ∷ ks) = wide k + row_size ks

-- what stands at the front of xs
abbrev pub get_val : (k : Column) → List ℕ → Val k
get_val (num f) xs = number f.width xs
get_val (raw f) xs = take f.width xs
get_val (text f) xs = (text_of (take f.width xs), tail_of (take f.width xs))

abbrev pub get_row : (ks : List Column) → List ℕ → Vals ks
get_row [] xs = tt
get_row (k ∷ ks) xs = (get_val k xs, get_row ks (drop (wide k) xs))

-- what stands at the fields' own places in xs
abbrev pub val_in : (k : Column) → List ℕ → Val k
val_in (num f) xs = number_in f xs
val_in (raw f) xs = bytes_in f xs
val_in (text f) xs = (text_of (bytes_in f xs), tail_of (bytes_in f xs))

abbrev pub row_in : (ks : List Column) → List ℕ → Vals ks
row_in [] xs = tt
row_in (k ∷ ks) xs = (val_in k xs, row_in ks xs)

-- as stored
abbrev pub put_val : (k : Column) → Val k → List ℕ
put_val (num f) v = stored f v
put_val (raw f) v = v
put_val (text f) v = tailed v.0 v.1

abbrev pub put_row : (ks : List Column) → Vals ks → List ℕ
put_row [] h = []
put_row (k ∷ ks) h = put_val k h.0 ++ put_row ks h.1

-- values that their fields can hold
abbrev pub FitVal : (k : Column) → Val k → Type 0
FitVal (num f) v = v < 256 ^ f.width
FitVal (raw f) v = (length v ≡ f.width) × Bytes v
FitVal (text f) v = FineText f v.0 × FineTail f v.0 v.1

abbrev pub FitRow : (ks : List Column) → Vals ks → Type 0
FitRow [] h = Unit {0}
FitRow (k ∷ ks) h = FitVal k h.0 × FitRow ks h.1

-- what must be tested for a field to be read back as it stood
abbrev pub ok_val : Column → List ℕ → Bool
ok_val (num f) xs = true
ok_val (raw f) xs = true
ok_val (text f) xs = is_text_field (take f.width xs)

abbrev pub OkRow : List Column → List ℕ → Type 0
OkRow [] xs = Unit {0}
OkRow (k ∷ ks) xs = (ok_val k xs ≡ true) × OkRow ks (drop (wide k) xs)

abbrev pub OkIn : List Column → List ℕ → Type 0
OkIn [] xs = Unit {0}
OkIn (k ∷ ks) xs = (ok_val k (drop (field_of k).place xs) ≡ true) × OkIn ks xs

-- the fields stand one after another from a place on
abbrev pub InLine : ℕ → List Column → Type 0
InLine place [] = Unit {0}
InLine place (k ∷ ks) = (place ≡ (field_of k).place) × InLine (place + wide k) ks

-- one field
pub length_val : (k : Column) (v : Val k) → FitVal k v → length (put_val k v) ≡ wide k
length_val (num f) v h = length-bytes f.width v
length_val (raw f) v h = h.0
length_val (text f) v h = length-tailed f v.0 v.1 h.1

get_put : (k : Column) (v : Val k) (r : List ℕ) → FitVal k v → get_val k (put_val k v ++ r) ≡ v
get_put (num f) v r h = number-bytes f.width v r h
get_put (raw f) v r h = take_at v r f.width h.0
get_put (text f) v r h =
    let o = text_on v.0 v.1 h.0.nonzero in
    rw (take_at (tailed v.0 v.1) r f.width (length-tailed f v.0 v.1 h.1)) (λ j. (o.0 j, o.1 j))

put_get : (k : Column) (xs : List ℕ) → Bytes xs → wide k ≤ length xs → ok_val k xs ≡ true
    → FitVal k (get_val k xs) × (put_val k (get_val k xs) ++ drop (wide k) xs ≡ xs)
put_get (num f) xs bs h o = (number_lt f.width xs bs, bytes-number f.width xs bs h)
put_get (raw f) xs bs h o = ((length-take-le f.width xs h, all_take _ f.width xs bs), take-append-drop f.width xs)
put_get (text f) xs bs h o =
    let r = text_back f (take f.width xs) (all_take _ f.width xs bs) (length-take-le f.width xs h) o in
    ((r.0, r.1), rw r.2 (take-append-drop f.width xs))

ok_put : (k : Column) (v : Val k) (r : List ℕ) → FitVal k v → ok_val k (put_val k v ++ r) ≡ true
ok_put (num f) v r h = refl
ok_put (raw f) v r h = refl
ok_put (text f) v r h =
    rw (take_at (tailed v.0 v.1) r f.width (length-tailed f v.0 v.1 h.1)) (text_on v.0 v.1 h.0.nonzero).2

val_in_lem : (k : Column) (xs : List ℕ) → get_val k (drop (field_of k).place xs) ≡ val_in k xs
val_in_lem (num f) xs = refl
val_in_lem (raw f) xs = refl
val_in_lem (text f) xs = refl

-- a row that was stored has its fields' widths together, and is read back, and passes its tests
pub length-row : (ks : List Column) (h : Vals ks) → FitRow ks h → length (put_row ks h) ≡ row_size ks
length-row [] h f = refl
length-row (k ∷ ks) h f = rw (length-append, length_val k h.0 f.0, length-row ks h.1 f.1)

get_row_lem : (ks : List Column) (h : Vals ks) (r : List ℕ) → FitRow ks h → get_row ks (put_row ks h ++ r) ≡ h
get_row_lem [] h r f = refl
get_row_lem (k ∷ ks) h r f =
    rw (
      append_assoc (put_val k h.0) (put_row ks h.1) r,
      get_put k h.0 (put_row ks h.1 ++ r) f.0,
      drop_at (put_val k h.0) (put_row ks h.1 ++ r) (wide k) (length_val k h.0 f.0),
      get_row_lem ks h.1 r f.1,
    )

ok_row : (ks : List Column) (h : Vals ks) (r : List ℕ) → FitRow ks h → OkRow ks (put_row ks h ++ r)
ok_row [] h r f = tt
ok_row (k ∷ ks) h r f =
    rw (append_assoc (put_val k h.0) (put_row ks h.1) r, drop_at (put_val k h.0) (put_row ks h.1 ++ r) (wide k) (length_val k h.0 f.0))
    (ok_put k h.0 (put_row ks h.1 ++ r) f.0, ok_row ks h.1 r f.1)

-- what was read of bytes fits, and stored again gives those bytes
put_row_lem : (ks : List Column) (xs : List ℕ) → Bytes xs → row_size ks ≤ length xs → OkRow ks xs
    → FitRow ks (get_row ks xs) × (put_row ks (get_row ks xs) ++ drop (row_size ks) xs ≡ xs)
put_row_lem [] xs bs h o = (tt, refl)
put_row_lem (k ∷ ks) xs bs h o =
    let a = put_get k xs bs (omega arith) o.0 in
    let b = put_row_lem ks (drop (wide k) xs) (all_drop _ (wide k) xs bs) (rw length-drop (omega arith)) o.1 in
    ((a.0, b.0), took_both (put_val k (get_val k xs)) (put_row ks (get_row ks (drop (wide k) xs))) xs (wide k) (row_size ks) a.1 b.1)

-- what stands at the fields' places is what stands one after another
row_in_lem : (place : ℕ) (ks : List Column) (s : List ℕ) → InLine place ks → get_row ks (drop place s) ≡ row_in ks s
row_in_lem place [] s l = refl
row_in_lem place (k ∷ ks) s l =
    rw (drop-drop (wide k) place s, row_in_lem (place + wide k) ks s l.1)
    (ap (λ z. (z, row_in ks s)) (ap (λ p. get_val k (drop p s)) l.0 ∙ val_in_lem k s))

ok_in : (place : ℕ) (ks : List Column) (s : List ℕ) → InLine place ks → OkRow ks (drop place s) ≡ OkIn ks s
ok_in place [] s l = refl
ok_in place (k ∷ ks) s l =
    rw (drop-drop (wide k) place s, ok_in (place + wide k) ks s l.1)
    (ap (λ p. (ok_val k (drop p s) ≡ true) × OkIn ks s) l.0)

-- rows at the start of their bytes
module _ (ks : List Column) (l : InLine 0 ks) where
  pub row_back : (s : List ℕ) → Bytes s → row_size ks ≤ length s → OkIn ks s
      → FitRow ks (row_in ks s) × (put_row ks (row_in ks s) ++ drop (row_size ks) s ≡ s)
  row_back s bs h o =
      subst (λ v. FitRow ks v × (put_row ks v ++ drop (row_size ks) s ≡ s)) (row_in_lem 0 ks s l)
      (put_row_lem ks s bs h (subst (λ X. X) (sym (ok_in 0 ks s l)) o))

  pub row_on : (h : Vals ks) (r : List ℕ) → FitRow ks h → row_in ks (put_row ks h ++ r) ≡ h
  row_on h r f = sym (row_in_lem 0 ks (put_row ks h ++ r) l) ∙ get_row_lem ks h r f

  pub ok_on : (h : Vals ks) (r : List ℕ) → FitRow ks h → OkIn ks (put_row ks h ++ r)
  ok_on h r f = subst (λ X. X) (ok_in 0 ks (put_row ks h ++ r) l) (ok_row ks h r f)
