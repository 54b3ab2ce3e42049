-- A sheet cleared is the same sheet with clean tails, written.
use mathlib.Core.List.{List, [], ◌∷◌, ◌++◌, append_assoc}
use mathlib.Core.Logic.{◌↔◌}
use mathlib.Core.Path.{◌≡◌, refl, ap, sym, ◌∙◌}
use Prim.Native.Nat.{ℕ, ◌+◌, ◌-◌, ◌≤◌}
use lib.ListN.{length, take, drop, replicate, length-append}
use lib.Seq.{take_at, drop_at}
use native.Mathlib.Omega.{arith}
use Rattle.layout.specs.Bytes.{All, Field, after, bytes_in, stored}
use Rattle.layout.specs.Fields.Descriptor
use Rattle.layout.specs.Fields.Passport
use Rattle.layout.specs.Layout.Cleared.{put_in, clear_tail, cleared_in, summed, cleared}
use Rattle.layout.specs.Layout.Encode.{encode_head, encode_with, sheet_sum, encode}
use Rattle.layout.specs.Layout.Fine.{Fine}
use Rattle.layout.specs.Layout.Uses.{years}
use Rattle.layout.specs.Reading.Sheets.{sum_of}
use Rattle.layout.specs.Shared.Tails.{AllClean, clean_of}
use Rattle.layout.specs.Shared.Texts.{tailed, padded, clean_tail}
use Rattle.layout.specs.Sheet.{Sheet}
use Rattle.laws.proofs.Base.Rows.{Column, num, raw, text, field_of, wide, Val, Vals, put_val, put_row, FitVal, FitRow, InLine, length_val}
use Rattle.laws.proofs.Base.Texts.{clear_tailed, clean-fine}
use Rattle.laws.proofs.Encoding.Lengths.{length-encode}
use Rattle.laws.proofs.Encoding.Sums.{sum_fits}
use Rattle.laws.proofs.Encoding.Tails.{clean-tails, clean_is}
use Rattle.laws.proofs.Reading.Heads.{columns, in_line, row_of, head-fits}
use Rattle.laws.proofs.Reading.Sheets.{with-is, sum-with}

-- a field of a row and the row, cleared; and the row's values with clean tails
abbrev clear_val : Column → List ℕ → List ℕ
clear_val (num f) s = s
clear_val (raw f) s = s
clear_val (text f) s = cleared_in f s

abbrev clean_val : (k : Column) → Val k → Val k
clean_val (num f) v = v
clean_val (raw f) v = v
clean_val (text f) v = (v.0, clean_tail f v.0)

abbrev clear_row : List Column → List ℕ → List ℕ
clear_row [] s = s
clear_row (k ∷ ks) s = clear_row ks (clear_val k s)

abbrev clean_row : (ks : List Column) → Vals ks → Vals ks
clean_row [] h = tt
clean_row (k ∷ ks) h = (clean_val k h.0, clean_row ks h.1)

-- other bytes in a field
put_at : (f : Field) (p v w x : List ℕ) → length p ≡ f.place → length v ≡ f.width → put_in f w (p ++ (v ++ x)) ≡ p ++ (w ++ x)
put_at f p v w x a b =
    let len : length (p ++ v) ≡ after f = omega (arith, a, b, length-append p v) in
    let end : drop (after f) (p ++ (v ++ x)) ≡ x = ap (λ l. drop (after f) l) (sym (append_assoc p v x)) ∙ drop_at (p ++ v) x (after f) len in
    ap (λ l. l ++ (w ++ drop (after f) (p ++ (v ++ x)))) (take_at p (v ++ x) f.place a) ∙ ap (λ l. p ++ (w ++ l)) end

in_at : (f : Field) (p v x : List ℕ) → length p ≡ f.place → length v ≡ f.width → bytes_in f (p ++ (v ++ x)) ≡ v
in_at f p v x a b = ap (λ l. take f.width l) (drop_at p (v ++ x) f.place a) ∙ take_at v x f.width b

clear_val_lem : (k : Column) (p : List ℕ) (v : Val k) (x : List ℕ) → length p ≡ (field_of k).place → FitVal k v
    → clear_val k (p ++ (put_val k v ++ x)) ≡ p ++ (put_val k (clean_val k v) ++ x)
clear_val_lem (num f) p v x a h = refl
clear_val_lem (raw f) p v x a h = refl
clear_val_lem (text f) p v x a h =
    let held : List ℕ = tailed v.0 v.1 in
    let b : length held ≡ f.width = length_val (text f) v h in
    let n : length v.1 ≡ f.width - (length v.0 + 1) = omega (arith, h.1.filled) in
    let zeroed : clear_tail (bytes_in f (p ++ (held ++ x))) ≡ padded f v.0 =
    ap clear_tail (in_at f p held x a b) ∙ clear_tailed v.0 v.1 h.0.nonzero ∙ ap (λ k. tailed v.0 (replicate k 0)) n in
    ap (λ y. put_in f y (p ++ (held ++ x))) zeroed ∙ put_at f p held (padded f v.0) x a b

clean-fits : (k : Column) (v : Val k) → FitVal k v → FitVal k (clean_val k v)
clean-fits (num f) v h = h
clean-fits (raw f) v h = h
clean-fits (text f) v h = (h.0, clean-fine f v.0 h.0)

-- the front of a row is done, the rest is to do
clear_row_lem : (place : ℕ) (ks : List Column) (h : Vals ks) (p r : List ℕ) → InLine place ks → FitRow ks h → length p ≡ place
    → clear_row ks (p ++ (put_row ks h ++ r)) ≡ p ++ (put_row ks (clean_row ks h) ++ r)
clear_row_lem place [] h p r l f e = refl
clear_row_lem place (k ∷ ks) h p r l f e =
    let v : List ℕ = put_val k h.0 in
    let w : List ℕ = put_val k (clean_val k h.0) in
    let x : List ℕ = put_row ks h.1 in
    let y : List ℕ = put_row ks (clean_row ks h.1) in
    let n : length (p ++ w) ≡ place + wide k =
    omega (arith, e, length-append p w, length_val k (clean_val k h.0) (clean-fits k h.0 f.0)) in
    let here : clear_val k (p ++ ((v ++ x) ++ r)) ≡ (p ++ w) ++ (x ++ r) =
    ap (λ s. clear_val k (p ++ s)) (append_assoc v x r) ∙ clear_val_lem k p h.0 (x ++ r) (e ∙ l.0) f.0 ∙ sym (append_assoc p w (x ++ r)) in
    ap (λ s. clear_row ks s) here
    ∙ clear_row_lem (place + wide k) ks h.1 (p ++ w) r l.1 f.1 n
    ∙ append_assoc p w (y ++ r) ∙ ap (λ l. p ++ l) (sym (append_assoc w y r))

-- another number in the field of the sum
sum_in : (u : Sheet) (m n : ℕ) → put_in Passport.sum (stored Passport.sum n) (encode_with u m) ≡ encode_with u n
unfolding encode_with encode_head
sum_in u m n = refl

pub cleared-is : (u : Sheet) → Fine u → cleared (encode u) ≡ encode (clean_of u)
unfolding cleared encode
cleared-is u f =
    let m : ℕ = sheet_sum u in
    let count : ℕ = length u.records in
    let v : Sheet = clean_of u in
    let fits : FitRow columns (row_of u.head u.tails m count) = head-fits u.head u.tails m count f.head f.tails (sum_fits u) f.count in
    let four : clear_row columns (encode_with u m) ≡ encode_with v m =
    ap (λ s. clear_row columns s) (with-is u m) ∙ clear_row_lem 0 columns (row_of u.head u.tails m count) [] _ in_line fits refl ∙ sym (with-is v m) in
    ap summed four ∙ sum_in v m (sum_of (encode_with v m)) ∙ ap (λ n. encode_with v n) (sum-with v m)

-- and is fine
pub cleared-fine : (u : Sheet) → Fine u → Fine (clean_of u)
cleared-fine u f =
    let v : Sheet = clean_of u in
    let tails = clean-tails u.head f.head in
    record {
      short = omega (arith, f.short, length-encode u f.head f.tails, length-encode v f.head tails);
      head = f.head;
      tails = tails;
      count = f.count;
      records = f.records;
    }

-- clearing changes no year,
pub cleared-old : (u : Sheet) (year : ℕ) → All (λ z. z ≤ year) (years u) ↔ All (λ z. z ≤ year) (years (clean_of u))
unfolding years
cleared-old u year = (λ a. a, λ a. a)

-- nor the length
pub cleared-length : (u : Sheet) → Fine u → length (cleared (encode u)) ≡ length (encode u)
cleared-length u f =
    let v : Sheet = clean_of u in
    omega (arith, ap length (cleared-is u f), length-encode u f.head f.tails, length-encode v f.head (clean-tails u.head f.head))

-- Where all four tails are clean, nothing is cleared.
pub cleared-clean : (u : Sheet) → Fine u → AllClean u.tails → cleared (encode u) ≡ encode u
cleared-clean u f c = cleared-is u f ∙ ap encode (sym (clean_is u f c))
