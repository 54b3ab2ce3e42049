-- Whether elements fit their widths, one after another from a place on.
use mathlib.Core.Bool.{Bool, true, false, ◌&&◌, ◌||◌}
use mathlib.Core.List.{List, [], ◌∷◌}
use mathlib.Core.Path.{◌≡◌, refl, sym, ap, ◌∙◌}
use Prim.Native.Nat.{ℕ, zero, suc, ◌+◌, ◌-◌, ◌*◌, ◌^◌, ◌≤◌, ◌<◌}
use borrow.Author.Tests.{lt-ltb, le-ltb}
use lib.Dec.{ltb}
use lib.ListN.{length, get_or, take, drop, replicate, length-drop}
use lib.Seq.{drop-cons, get_or-drop}
use native.Mathlib.Numerals.{add-one}
use native.Mathlib.Omega.{arith}
use Rattle.std.specs.List.{list_all}
use Rattle.fields.specs.Shapes.{dimensions}
use Rattle.layout.specs.Bytes.{repeat}
use Rattle.layout.specs.Shared.Widths.{element_widths}
use Rattle.layout.specs.Writing.Parts.{fit_all}

never : false ≡ true → ⊥
never e = let z : ◌≡◌ {A = ℕ} 0 1 = cc in omega arith

-- elements of one width

fit_list : (w n : ℕ) (es : List ℕ) → n ≤ length es → list_all (λ x. ltb x (256 ^ w)) (take n es) ≡ fit_all (replicate n w) es
fit_list w zero es h = refl
fit_list w (suc n) [] h = absurd (omega arith)
fit_list w (suc n) (e ∷ es) h = ap (λ b. ltb e (256 ^ w) && b) (fit_list w n es (omega arith))

pub fit_all_lem : (w n at : ℕ) (es : List ℕ) → at + n ≤ length es
    → list_all (λ x. ltb x (256 ^ w)) (take n (drop at es)) ≡ fit_all (replicate n w) (drop at es)
fit_all_lem w n at es h = fit_list w n (drop at es) (omega (arith, h, length-drop at es))

-- any element fits eight bytes
fit-eight : (n : ℕ) (es : List ℕ) → n ≤ length es → ((i : ℕ) → get_or es i 0 < 256 ^ 8) → fit_all (replicate n 8) es ≡ true
fit-eight zero es h g = refl
fit-eight (suc n) [] h g = absurd (omega arith)
fit-eight (suc n) (e ∷ es) h g = rw (lt-ltb e (256 ^ 8) (g 0)) (fit-eight n es (omega arith) (λ i. g (suc i)))

pub fit_any : (n at : ℕ) (es : List ℕ) → at + n ≤ length es → ((i : ℕ) → get_or es i 0 < 256 ^ 8) → fit_all (replicate n 8) (drop at es) ≡ true
fit_any n at es h g = fit-eight n (drop at es) (omega (arith, length-drop at es)) (λ i. rw (get_or-drop at es i 0) (g (at + i)))

-- points of two bytes, two bytes and four

abbrev pub mixed : List ℕ
mixed = 2 ∷ 2 ∷ 4 ∷ []

module _ (es : List ℕ) (i : ℕ) (h : i + 3 ≤ length es) where
  three-at : (m : ℕ) → fit_all (repeat (suc m) mixed) (drop i es)
      ≡ (ltb (get_or es i 0) (256 ^ 2) && (ltb (get_or es (i + 1) 0) (256 ^ 2) && (ltb (get_or es (i + 2) 0) (256 ^ 4) && fit_all (repeat m mixed) (drop (i + 3) es))))
  three-at m =
      let two : suc (i + 1) ≡ i + 2 = omega arith in
      let three : suc (i + 2) ≡ i + 3 = omega arith in
      let a : drop i es ≡ get_or es i 0 ∷ drop (i + 1) es = drop-cons es i 0 (omega arith) ∙ ap (λ k. get_or es i 0 ∷ drop k es) (sym (add-one i)) in
      let b : drop (i + 1) es ≡ get_or es (i + 1) 0 ∷ drop (i + 2) es =
      drop-cons es (i + 1) 0 (omega arith) ∙ ap (λ k. get_or es (i + 1) 0 ∷ drop k es) two in
      let c : drop (i + 2) es ≡ get_or es (i + 2) 0 ∷ drop (i + 3) es =
      drop-cons es (i + 2) 0 (omega arith) ∙ ap (λ k. get_or es (i + 2) 0 ∷ drop k es) three in
      let d : drop i es ≡ get_or es i 0 ∷ get_or es (i + 1) 0 ∷ get_or es (i + 2) 0 ∷ drop (i + 3) es =
      a ∙ ap (λ l. get_or es i 0 ∷ l) (b ∙ ap (λ l. get_or es (i + 1) 0 ∷ l) c) in
      ap (λ l. fit_all (repeat (suc m) mixed) l) d

  pub wide_x : (left : ℕ) → 0 < left → 65536 ≤ get_or es i 0 → fit_all (repeat left mixed) (drop i es) ≡ false
  wide_x zero l g = absurd (omega arith)
  wide_x (suc m) l g = three-at m ∙ rw (le-ltb (get_or es i 0) 65536 g)

  pub wide_y : (left : ℕ) → 0 < left → get_or es i 0 < 65536 → 65536 ≤ get_or es (i + 1) 0 → fit_all (repeat left mixed) (drop i es) ≡ false
  wide_y zero l f g = absurd (omega arith)
  wide_y (suc m) l f g = three-at m ∙ rw (lt-ltb (get_or es i 0) 65536 f, le-ltb (get_or es (i + 1) 0) 65536 g)

  pub wide-height : (left : ℕ) → 0 < left → get_or es i 0 < 65536 → get_or es (i + 1) 0 < 65536 → 4294967296 ≤ get_or es (i + 2) 0
      → fit_all (repeat left mixed) (drop i es) ≡ false
  wide-height zero l f g k = absurd (omega arith)
  wide-height (suc m) l f g k =
      three-at m ∙ rw (lt-ltb (get_or es i 0) 65536 f, lt-ltb (get_or es (i + 1) 0) 65536 g, le-ltb (get_or es (i + 2) 0) 4294967296 k)

  pub point-next : (left : ℕ) → 0 < left → get_or es i 0 < 65536 → get_or es (i + 1) 0 < 65536 → get_or es (i + 2) 0 < 4294967296
      → fit_all (repeat left mixed) (drop i es) ≡ fit_all (repeat (left - 1) mixed) (drop (i + 3) es)
  point-next zero l f g k = absurd (omega arith)
  point-next (suc m) l f g k =
      let e : suc m - 1 ≡ m = omega arith in
      three-at m ∙ rw (lt-ltb (get_or es i 0) 65536 f, lt-ltb (get_or es (i + 1) 0) 65536 g, lt-ltb (get_or es (i + 2) 0) 4294967296 k, e)

pub points_done : (left : ℕ) (es : List ℕ) → left ≤ 0 → fit_all (repeat left mixed) es ≡ true
points_done zero es h = refl
points_done (suc m) es h = absurd (omega arith)

-- points of one width are elements of it

repeat_two : (w n : ℕ) → repeat n (w ∷ w ∷ []) ≡ replicate (n * 2) w
repeat_two w zero = refl
repeat_two w (suc n) = let e : suc n * 2 ≡ suc (suc (n * 2)) = omega arith in rw e (ap (λ l. w ∷ w ∷ l) (repeat_two w n))

repeat-three : (w n : ℕ) → repeat n (w ∷ w ∷ w ∷ []) ≡ replicate (n * 3) w
repeat-three w zero = refl
repeat-three w (suc n) = let e : suc n * 3 ≡ suc (suc (suc (n * 3))) = omega arith in rw e (ap (λ l. w ∷ w ∷ w ∷ l) (repeat-three w n))

pub widths-eight : (size float three : Bool) → (size && float) ≡ true → (n points : ℕ) → n ≡ points * dimensions three
    → repeat points (element_widths size float three) ≡ replicate n 8
widths-eight false float three e n points k = absurd (never e)
widths-eight true false three e n points k = absurd (never e)
widths-eight true true true e n points k = rw k (repeat-three 8 points)
widths-eight true true false e n points k = rw k (repeat_two 8 points)

pub widths_four : (size float three : Bool) → (size && float) ≡ false → (size || float) ≡ true → (n points : ℕ) → n ≡ points * dimensions three
    → repeat points (element_widths size float three) ≡ replicate n 4
widths_four false false three d e n points k = absurd (never e)
widths_four true true three d e n points k = absurd (never (sym d))
widths_four true false true d e n points k = rw k (repeat-three 4 points)
widths_four true false false d e n points k = rw k (repeat_two 4 points)
widths_four false true true d e n points k = rw k (repeat-three 4 points)
widths_four false true false d e n points k = rw k (repeat_two 4 points)

pub widths_two : (size float three : Bool) → (size || float) ≡ false → three ≡ false → (n points : ℕ) → n ≡ points * dimensions three
    → repeat points (element_widths size float three) ≡ replicate n 2
widths_two size float true d e n points k = absurd (never (sym e))
widths_two true float false d e n points k = absurd (never (sym d))
widths_two false true false d e n points k = absurd (never (sym d))
widths_two false false false d e n points k = rw k (repeat_two 2 points)

pub widths-mixed : (size float three : Bool) → (size || float) ≡ false → three ≡ true → element_widths size float three ≡ mixed
widths-mixed size float false d e = absurd (never e)
widths-mixed true float true d e = absurd (never (sym d))
widths-mixed false true true d e = absurd (never (sym d))
widths-mixed false false true d e = refl
