-- An item is read exactly as it is written.
use mathlib.Core.Bool.{Bool, true, false, cond, ◌||◌}
use mathlib.Core.List.{List, [], ◌∷◌, ◌++◌, append_assoc}
use mathlib.Core.Path.{◌≡◌, refl, ap, ap₂, sym, ◌∙◌, subst}
use Prim.Native.Nat.{ℕ, ◌+◌, ◌^◌, ◌≤◌, ◌<◌}
use borrow.Author.Tests.{leb-true, le-leb}
use lib.Dec.{eqb, leb}
use lib.ListN.{length, take, drop, length-append, length-drop, take-append-drop}
use lib.Seq.{drop_at, drop-drop, take_at, length-take-le}
use native.Mathlib.Omega.{arith}
use Rattle.layout.specs.Bytes.{Bytes, number, bytes, number_in}
use Rattle.layout.specs.Fields.Item as Field
use Rattle.layout.specs.Layout.Encode.{encode_item}
use Rattle.layout.specs.Layout.Fine.{FineItem}
use Rattle.layout.specs.Layout.Uses.{item_years}
use Rattle.layout.specs.Reading.Items.{kind_in, value_at, value_size, item_size, item_in, item_checks, item_walk}
use Rattle.layout.specs.Refusals.{LENGTH}
use Rattle.layout.specs.Shared.Types.{Kind, narrow, wide, long, integer, double, unknown, kind_of, is_known, is_long, good_scale, length_bytes, value_length}
use Rattle.layout.specs.Shared.Types.{good_length, is_closed}
use Rattle.layout.specs.Sheet.{Item}
use Rattle.layout.specs.Walk.{given, must, Holds, piece}
use Rattle.layout.specs.Years.{since, type_128}
use Rattle.laws.proofs.Base.Lists.{◌&◌, all_take, all_drop}
use Rattle.laws.proofs.Base.Numbers.{length-bytes, number-bytes, number_lt, bytes-number}
use Rattle.laws.proofs.Base.Readers.{Reads, took_both}
use Rattle.laws.proofs.Base.Rows.{Column, num, Vals, row_in, put_row, InLine, row_back, row_on}
use Rattle.laws.proofs.Base.Walks.{Allowed, given_inj, checks_case, checks_on}

-- code, type and scale
abbrev pub columns : List Column
columns = num Field.code ∷ num Field.type ∷ num Field.scale ∷ []

abbrev pub row_of : Item → Vals columns
row_of i = i.code & i.type & i.scale & tt

in_line : InLine 0 columns
in_line = refl & refl & refl & tt

-- the length of type 128 and the value
abbrev pub tail_of : Item → List ℕ
tail_of i = bytes (length_bytes (kind_of i.type)) (length i.value) ++ i.value

pub item-is : (i : Item) → encode_item i ≡ put_row columns (row_of i) ++ tail_of i
unfolding encode_item
item-is i = refl

-- the value's length, over the kinds: ys are the bytes after code, type and scale
stated_back : (k : Kind) (scale : ℕ) (ys : List ℕ) → Bytes ys → length_bytes k ≤ length ys
    → bytes (length_bytes k) (value_length k scale (number 4 ys)) ++ drop (length_bytes k) ys ≡ ys
stated_back narrow scale ys bs h = refl
stated_back wide scale ys bs h = refl
stated_back long scale ys bs h = bytes-number 4 ys bs h
stated_back (integer n) scale ys bs h = refl
stated_back double scale ys bs h = refl
stated_back unknown scale ys bs h = refl

stated_on : (k : Kind) (scale n : ℕ) (r : List ℕ) → n < 256 ^ 4 → n ≡ value_length k scale n
    → value_length k scale (number 4 (bytes (length_bytes k) n ++ r)) ≡ n
stated_on narrow scale n r h e = sym e
stated_on wide scale n r h e = sym e
stated_on long scale n r h e = number-bytes 4 n r h
stated_on (integer m) scale n r h e = sym e
stated_on double scale n r h e = sym e
stated_on unknown scale n r h e = sym e

length_twice : (k : Kind) (scale n : ℕ) → value_length k scale n ≡ value_length k scale (value_length k scale n)
length_twice narrow scale n = refl
length_twice wide scale n = refl
length_twice long scale n = refl
length_twice (integer m) scale n = refl
length_twice double scale n = refl
length_twice unknown scale n = refl

-- a fact of every kind that a type can have
kind-all : (P : Kind → Type 0) (type : ℕ) → P narrow → P wide → P (integer type) → P double → P long → P unknown → P (kind_of type)
kind-all P type n w i d l u =
    go (eqb type 0 || eqb type 126) (eqb type 127) (eqb type 1 || eqb type 2 || eqb type 4) (eqb type 8) (eqb type 128)
  where
    go : (a b c e f : Bool) → P (cond a narrow (cond b wide (cond c (integer type) (cond e double (cond f long unknown)))))
    go true b c e f = n
    go false true c e f = w
    go false false true e f = i
    go false false false true f = d
    go false false false false true = l
    go false false false false false = u

-- no value is too long for the field of a length
length-short : (type scale n : ℕ) → type < 256 → scale < 256 → n < 256 ^ 4 → value_length (kind_of type) scale n < 256 ^ 4
length-short type scale n t s h =
    kind-all (λ k. value_length k scale n < 256 ^ 4) type (omega arith) (omega arith) (omega arith) (omega arith) h (omega arith)

-- what the checks show of the bytes xs
item-fine : (xs : List ℕ) → Bytes xs → Field.size ≤ length xs → Holds (item_checks xs)
    → FineItem (item_in xs) × (length (item_in xs).value ≡ value_size xs) × (encode_item (item_in xs) ++ drop (item_size xs) xs ≡ xs)
unfolding item_checks
item-fine xs bs head c =
    let k : Kind = kind_in xs in
    let m : ℕ = length_bytes k in
    let n : ℕ = value_size xs in
    let v : List ℕ = (item_in xs).value in
    let ys : List ℕ = drop 4 xs in
    let row = row_back columns in_line xs bs head (refl & refl & refl & tt) in
    let fits : value_at k + n ≤ length xs = leb-true _ _ c.1.1.1.1.0 in
    let len : length v ≡ n = length-take-le n (drop (value_at k) xs) (rw length-drop (omega arith)) in
    let lead : bytes m n ++ drop m ys ≡ ys = stated_back k (number_in Field.scale xs) ys (all_drop _ 4 xs bs) (rw length-drop (omega arith)) in
    let value : v ++ drop n (drop m ys) ≡ drop m ys = rw (drop-drop m 4 xs) (take-append-drop n (drop (value_at k) xs)) in
    let tail : tail_of (item_in xs) ++ drop (m + n) ys ≡ ys = rw len (took_both (bytes m n) v ys m n lead value) in
    let all : encode_item (item_in xs) ++ drop (4 + (m + n)) xs ≡ xs =
    rw (item-is (item_in xs)) (took_both (put_row columns (row_of (item_in xs))) (tail_of (item_in xs)) xs 4 (m + n) row.1 tail) in
    let size : 4 + (m + n) ≡ item_size xs = omega arith in
    let short : n < 256 ^ 4 =
    length-short (number_in Field.type xs) (number_in Field.scale xs) (number 4 ys) row.0.1.0 row.0.1.1.0
    (number_lt 4 ys (all_drop _ 4 xs bs)) in (
      record {
        code = row.0.0;
        type = row.0.1.0;
        scale = row.0.1.1.0;
        known = c.0;
        scaled = c.1.0;
        sized = rw len (length_twice k (number_in Field.scale xs) (number_in Field.long_length xs));
        measured = rw len c.1.1.1.0;
        short = rw len short;
        closed = c.1.1.1.1.1.0;
        is_bytes = all_take _ n (drop (value_at k) xs) (all_drop _ (value_at k) xs bs);
      },
      len,
      subst (λ z. encode_item (item_in xs) ++ drop z xs ≡ xs) size all,
    )

pub length-item : (i : Item) → length (encode_item i) ≡ value_at (kind_of i.type) + length i.value
unfolding encode_item
length-item i =
    let m : ℕ = length_bytes (kind_of i.type) in
    let n : ℕ = length i.value in
    omega (arith, length-append (bytes m n) i.value, length-bytes m n)

pub item_grows : (i : Item) → 0 < length (encode_item i)
item_grows i = omega (arith, length-item i)

-- what is read of bytes xs that start with a fine item
item_on : (i : Item) (xs r : List ℕ) → FineItem i → xs ≡ encode_item i ++ r
    → (item_in xs ≡ i) × (item_size xs ≡ length (encode_item i)) × Holds (item_checks xs) × (kind_in xs ≡ kind_of i.type)
unfolding item_checks
item_on i xs r f is =
    let k : Kind = kind_of i.type in
    let m : ℕ = length_bytes k in
    let n : ℕ = length i.value in
    let is2 : xs ≡ put_row columns (row_of i) ++ (tail_of i ++ r) = is ∙ ap (λ l. l ++ r) (item-is i) in
    let row : row_in columns xs ≡ row_of i =
    rw is2 (row_on columns in_line (row_of i) (tail_of i ++ r) (f.code & f.type & f.scale & tt)) in
    let code : number_in Field.code xs ≡ i.code = ap (λ u. u.0) row in
    let type : number_in Field.type xs ≡ i.type = ap (λ u. u.1.0) row in
    let scale : number_in Field.scale xs ≡ i.scale = ap (λ u. u.1.1.0) row in
    let tail : drop 4 xs ≡ bytes m n ++ (i.value ++ r) = ap (λ l. drop 4 l) is2 ∙ append_assoc (bytes m n) i.value r in
    let size : value_size xs ≡ n =
    ap₂ (λ t s. value_length (kind_of t) s (number 4 (drop 4 xs))) type scale
    ∙ ap (λ l. value_length k i.scale (number 4 l)) tail
    ∙ stated_on k i.scale n (i.value ++ r) f.short f.sized in
    let value : (item_in xs).value ≡ i.value =
    ap₂ (λ z t. take z (drop (value_at (kind_of t)) xs)) size type
    ∙ ap (λ l. take n l) (sym (drop-drop m 4 xs) ∙ ap (λ l. drop m l) tail ∙ drop_at (bytes m n) (i.value ++ r) m (length-bytes m n))
    ∙ take_at i.value r n refl in
    let start : value_at (kind_in xs) ≡ value_at k = ap (λ t. value_at (kind_of t)) type in
    let len : length xs ≡ value_at k + n + length r = omega (arith, ap length is, length-append (encode_item i) r, length-item i) in (
      (λ j. record { code = code j; type = type j; scale = scale j; value = value j }),
      omega (arith, length-item i),
      (ap (λ t. is_known (kind_of t)) type ∙ f.known & ap₂ (λ t s. good_scale (kind_of t) s) type scale ∙ f.scaled
          & le-leb (value_at (kind_in xs)) (length xs) (omega arith) & ap₂ (λ t z. good_length (kind_of t) z) type size ∙ f.measured
          & le-leb (item_size xs) (length xs) (omega arith) & ap₂ (λ t v. is_closed (kind_of t) v) type value ∙ f.closed & tt),
      ap kind_of type,
    )

pub item-reads : (al : ℕ → Bool) → Reads al item_walk encode_item FineItem item_years
unfolding item_walk item_checks item_years
item-reads al = record {
  sound = λ p xs bs v e.
      checks_case al p (must (leb Field.size (length xs)) LENGTH 0 ∷ []) _ v e λ h y i.
      checks_case al p (item_checks xs) _ v i λ c z g.
      let f = item-fine xs bs (leb-true _ _ h.0) c in
      rw (← (given_inj g)) (f.0, z, omega (arith, length-item (item_in xs), f.1), f.2);
  complete = λ p i r f y.
      let xs : List ℕ = encode_item i ++ r in
      let o = item_on i xs r f refl in
      let room : Field.size ≤ length xs = omega (arith, length-append (encode_item i) r, length-item i) in
      checks_on al p (must (leb Field.size (length xs)) LENGTH 0 ∷ []) _ (le-leb _ _ room, tt) tt
      ∙ checks_on al p (item_checks xs) _ o.2 (subst (λ k. Allowed al (cond (is_long k) (since type_128 ∷ []) [])) (sym o.3) y)
      ∙ ap₂ (λ a n. given (piece a n)) o.0 o.1;
}
