-- Readers of pieces: a reader reads exactly what an encoder writes, and so do readers made of readers.
use mathlib.Core.Bool.{Bool}
use mathlib.Core.List.{List, [], ◌∷◌, ◌++◌, append_assoc, append-nil}
use mathlib.Core.Logic.{◌↔◌}
use mathlib.Core.Path.{◌≡◌, refl, ap, sym, ◌∙◌, subst}
use Prim.Native.Nat.{ℕ, zero, suc, ◌+◌, ◌≤◌, ◌<◌}
use borrow.Author.Tests.{leb-true, le-leb}
use lib.Dec.{leb}
use lib.ListN.{length, drop, length-append, length-drop, drop_of_length-le}
use lib.Seq.{drop-drop, drop-append_seam}
use native.Mathlib.Omega.{arith}
use Rattle.layout.specs.Answers.Calls.{and_then}
use Rattle.layout.specs.Bytes.{All, flat, Bytes}
use Rattle.layout.specs.Walk.{Walk, ends, outcome, Answer, given, refused, answer, up_to, always, ◌>>=◌, ◌>>◌, must, Piece, piece, Reader, times, pair, filling}
use Rattle.layout.specs.Walk.{fill, whole}
use Rattle.laws.proofs.Base.Lists.{all_drop}
use Rattle.laws.proofs.Base.Walks.{given_inj, answer_bind, bind_case, bind_on, checks_case, checks_on, Allowed, allowed_append, allowed-always}
use Rattle.laws.proofs.Base.Walks.{allowed-up_to, outcome-is}
use Rattle.layout.specs.declared.refusals.Reason.{Reason}

-- what a reader took: v is the value and the count of its bytes
abbrev pub Took : {A : Type 0} → (ℕ → Bool) → (A → List ℕ) → (A → Type 0) → (A → List ℕ) → List ℕ → Piece A → Type 0
Took al E F Y xs v = F v.value × Allowed al (Y v.value) × (v.size ≡ length (E v.value)) × (E v.value ++ drop v.size xs ≡ xs)

-- a reader reads exactly what E writes of the values that are F; Y lists the years of what it comes upon
pub record Reads {A : Type 0} (al : ℕ → Bool) (r : Reader A) (E : A → List ℕ) (F : A → Type 0) (Y : A → List ℕ) : Type 0 where
  pub sound : (p : ℕ) (xs : List ℕ) → Bytes xs → (v : Piece A) → answer al (r p xs) ≡ given v → Took al E F Y xs v
  pub complete : (p : ℕ) (a : A) (rest : List ℕ) → F a → Allowed al (Y a) → answer al (r p (E a ++ rest)) ≡ given (piece a (length (E a)))

-- the same where all the bytes are the piece's
pub record Fills {A : Type 0} (al : ℕ → Bool) (w : ℕ → List ℕ → Walk A) (E : A → List ℕ) (F : A → Type 0) (Y : A → List ℕ) : Type 0 where
  pub sound : (p : ℕ) (xs : List ℕ) → Bytes xs → (a : A) → answer al (w p xs) ≡ given a → F a × Allowed al (Y a) × (E a ≡ xs)
  pub complete : (p : ℕ) (a : A) → F a → Allowed al (Y a) → answer al (w p (E a)) ≡ given a

pub took_both : (e g xs : List ℕ) (k m : ℕ) → e ++ drop k xs ≡ xs → g ++ drop m (drop k xs) ≡ drop k xs → (e ++ g) ++ drop (k + m) xs ≡ xs
took_both e g xs k m h i = rw (append_assoc, ← (drop-drop m k xs), i) h

module _ {A : Type 0} (al : ℕ → Bool) (r : Reader A) (E : A → List ℕ) (F : A → Type 0) (Y : A → List ℕ) (R : Reads al r E F Y) where
  times-sound : (n p : ℕ) (xs : List ℕ) → Bytes xs → (v : Piece (List A)) → answer al (times n r p xs) ≡ given v
      → Took al (flat E) (λ l. (length l ≡ n) × All F l) (flat Y) xs v
  times-sound zero p xs bs v e = rw (← (given_inj e)) ((refl, tt), tt, refl, refl)
  times-sound (suc n) p xs bs v e =
      bind_case al (r p xs) _ v e λ t h i.
      bind_case al (times n r (p + t.size) (drop t.size xs)) _ v i λ u j g.
      let s = R.sound p xs bs t h in
      let z = times-sound n (p + t.size) (drop t.size xs) (all_drop _ t.size xs bs) u j in
      rw (← (given_inj g)) (
        (ap suc z.0.0, (s.0, z.0.1)),
        (allowed_append al (Y t.value) (flat Y u.value)).1 (s.1, z.1),
        rw length-append (omega arith),
        took_both (E t.value) (flat E u.value) xs t.size u.size s.3 z.3,
      )

  times-complete : (p : ℕ) (l : List A) (rest : List ℕ) → All F l → Allowed al (flat Y l)
      → answer al (times (length l) r p (flat E l ++ rest)) ≡ given (piece l (length (flat E l)))
  times-complete p [] rest f y = refl
  times-complete p (a ∷ l) rest f y =
      let z = (allowed_append al (Y a) (flat Y l)).0 y in
      rw (append_assoc (E a) (flat E l) rest)
      (bind_on al (r p (E a ++ (flat E l ++ rest))) _ (piece a (length (E a))) (R.complete p a (flat E l ++ rest) f.0 z.0)
      ∙ rw (drop-append_seam (E a) (flat E l ++ rest))
      (bind_on al (times (length l) r (p + length (E a)) (flat E l ++ rest)) _ (piece l (length (flat E l)))
      (times-complete (p + length (E a)) l rest f.1 z.1)
      ∙ rw (length-append (E a) (flat E l))))

  pub times-reads : (n : ℕ) → Reads al (times n r) (flat E) (λ l. (length l ≡ n) × All F l) (flat Y)
  times-reads n = record {
    sound = times-sound n;
    complete = λ p l rest f y. subst (λ m. answer al (times m r p (flat E l ++ rest)) ≡ given (piece l (length (flat E l)))) f.0
        (times-complete p l rest f.1 y);
  }

  pub whole_fills : (n : Reason) → Fills al (whole n r) E F Y
  whole_fills n = record {
    sound = λ p xs bs a e.
        bind_case al (r p xs) _ a e λ t h i.
        checks_case al (p + t.size) (must (leb (length xs) t.size) n 0 ∷ []) (ends t.value) a i λ c y g.
        let s = R.sound p xs bs t h in
        let d : drop t.size xs ≡ [] = drop_of_length-le xs (leb-true _ _ c.0) in
        let q : E t.value ≡ xs = sym (append-nil (E t.value)) ∙ rw d at s.3 in
        rw (← (given_inj g)) (s.0, s.1, q);
    complete = λ p a f y.
        let h : answer al (r p (E a)) ≡ given (piece a (length (E a))) = rw append-nil at (R.complete p a [] f y) in
        bind_on al (r p (E a)) _ (piece a (length (E a))) h
        ∙ checks_on al (p + length (E a)) (must (leb (length (E a)) (length (E a))) n 0 ∷ []) (ends a)
        (le-leb (length (E a)) (length (E a)) (omega arith), tt) tt;
  }

  module _ (grows : (a : A) → 0 < length (E a)) where
    filling-sound : (f p : ℕ) (xs : List ℕ) → length xs ≤ f → Bytes xs → (l : List A) → answer al (filling r f p xs) ≡ given l
        → All F l × Allowed al (flat Y l) × (flat E l ≡ xs)
    filling-sound zero p [] h bs l e = rw (← (given_inj e)) (tt, tt, refl)
    filling-sound zero p (x ∷ xs) h bs l e = absurd (omega arith)
    filling-sound (suc f) p [] h bs l e = rw (← (given_inj e)) (tt, tt, refl)
    filling-sound (suc f) p (x ∷ xs) h bs l e =
        bind_case al (r p (x ∷ xs)) _ l e λ t i j.
        bind_case al (filling r f (p + t.size) (drop t.size (x ∷ xs))) _ l j λ m q g.
        let s = R.sound p (x ∷ xs) bs t i in
        let z = filling-sound f (p + t.size) (drop t.size (x ∷ xs)) (rw length-drop (omega (arith, grows t.value)))
        (all_drop _ t.size (x ∷ xs) bs) m q in
        rw (← (given_inj g)) ((s.0, z.0), (allowed_append al (Y t.value) (flat Y m)).1 (s.1, z.1), rw z.2 s.3)

    filling_step : (f p : ℕ) (xs : List ℕ) → 0 < length xs
        → filling r (suc f) p xs ≡ (r p xs >>= λ t. filling r f (p + t.size) (drop t.size xs) >>= λ l. ends (t.value ∷ l))
    filling_step f p [] h = absurd (omega arith)
    filling_step f p (x ∷ xs) h = refl

    filling-complete : (f p : ℕ) (l : List A) → length (flat E l) ≤ f → All F l → Allowed al (flat Y l) → answer al (filling r f p (flat E l)) ≡ given l
    filling-complete zero p [] h g y = refl
    filling-complete (suc f) p [] h g y = refl
    filling-complete zero p (a ∷ l) h g y = absurd (omega (arith, grows a, simp length-append at h))
    filling-complete (suc f) p (a ∷ l) h g y =
        let z = (allowed_append al (Y a) (flat Y l)).0 y in
        let n : length (E a) + length (flat E l) ≤ suc f = rw length-append at h in
        rw (filling_step f p (E a ++ flat E l) (rw length-append (omega (arith, grows a))))
        (bind_on al (r p (E a ++ flat E l)) _ (piece a (length (E a))) (R.complete p a (flat E l) g.0 z.0)
        ∙ rw (drop-append_seam (E a) (flat E l))
        (bind_on al (filling r f (p + length (E a)) (flat E l)) _ l (filling-complete f (p + length (E a)) l (omega (arith, grows a)) g.1 z.1)))

    pub fill_fills : Fills al (fill r) (flat E) (All F) (flat Y)
    fill_fills = record {
      sound = λ p xs bs l e. filling-sound (length xs) p xs (omega arith) bs l e;
      complete = λ p l f y. filling-complete (length (flat E l)) p l (omega arith) f y;
    }

-- a piece, and then another
pub pair_reads : {A B : Type 0} (al : ℕ → Bool) (r : Reader A) (E : A → List ℕ) (F : A → Type 0) (Y : A → List ℕ) → Reads al r E F Y
    → (s : Reader B) (G : B → List ℕ) (H : B → Type 0) (Z : B → List ℕ) → Reads al s G H Z
    → Reads al (pair r s) (λ t. E t.first ++ G t.second) (λ t. F t.first × H t.second) (λ t. Y t.first ++ Z t.second)
pair_reads al r E F Y R s G H Z S = record {
  sound = λ p xs bs v e.
      bind_case al (r p xs) _ v e λ t h i.
      bind_case al (s (p + t.size) (drop t.size xs)) _ v i λ u j g.
      let a = R.sound p xs bs t h in
      let b = S.sound (p + t.size) (drop t.size xs) (all_drop _ t.size xs bs) u j in
      rw (← (given_inj g)) (
        (a.0, b.0),
        (allowed_append al (Y t.value) (Z u.value)).1 (a.1, b.1),
        rw length-append (omega arith),
        took_both (E t.value) (G u.value) xs t.size u.size a.3 b.3,
      );
  complete = λ p t x f y.
      let z = (allowed_append al (Y t.first) (Z t.second)).0 y in
      rw (append_assoc (E t.first) (G t.second) x)
      (bind_on al (r p (E t.first ++ (G t.second ++ x))) _ (piece t.first (length (E t.first)))
      (R.complete p t.first (G t.second ++ x) f.0 z.0)
      ∙ rw (drop-append_seam (E t.first) (G t.second ++ x))
      (bind_on al (s (p + length (E t.first)) (G t.second ++ x)) _ (piece t.second (length (G t.second)))
      (S.complete (p + length (E t.first)) t.second x f.1 z.1)
      ∙ rw (length-append (E t.first) (G t.second))));
}

-- so many pieces are so many
pub times-length : {A : Type 0} (al : ℕ → Bool) (r : Reader A) (n p : ℕ) (xs : List ℕ) (v : Piece (List A)) → answer al (times n r p xs) ≡ given v
    → length v.value ≡ n
times-length al r zero p xs v e = rw (← (given_inj e)) refl
times-length al r (suc n) p xs v e =
    bind_case al (r p xs) _ v e λ a h i.
    bind_case al (times n r (p + a.size) (drop a.size xs)) _ v i λ u j g.
    rw (← (given_inj g)) (ap suc (times-length al r n (p + a.size) (drop a.size xs) u j))

-- each piece of a reader takes a byte at least, and no more than there are
pub record Sized {A : Type 0} (al : ℕ → Bool) (r : Reader A) : Type 0 where
  pub sized : (p : ℕ) (xs : List ℕ) (v : Piece A) → answer al (r p xs) ≡ given v → (0 < v.size) × (v.size ≤ length xs)

-- so pieces up to the end of their bytes do not depend on the fuel
module _ {A : Type 0} (al : ℕ → Bool) (r : Reader A) (s : Sized al r) where
  pub filling_fuel : (m n p : ℕ) (xs : List ℕ) → length xs ≤ m → length xs ≤ n → answer al (filling r m p xs) ≡ answer al (filling r n p xs)
  filling_fuel zero zero p xs h i = refl
  filling_fuel zero (suc n) p [] h i = refl
  filling_fuel zero (suc n) p (x ∷ xs) h i = absurd (omega arith)
  filling_fuel (suc m) zero p [] h i = refl
  filling_fuel (suc m) zero p (x ∷ xs) h i = absurd (omega arith)
  filling_fuel (suc m) (suc n) p [] h i = refl
  filling_fuel (suc m) (suc n) p (x ∷ xs) h i =
      answer_bind al (r p (x ∷ xs)) (one m)
      ∙ go (λ q ys. filling_fuel m n q ys) (answer al (r p (x ∷ xs))) refl
      ∙ sym (answer_bind al (r p (x ∷ xs)) (one n))
    where
      one : ℕ → Piece A → Walk (List A)
      one k a = filling r k (p + a.size) (drop a.size (x ∷ xs)) >>= λ more. ends (a.value ∷ more)

      go : ((q : ℕ) (ys : List ℕ) → length ys ≤ m → length ys ≤ n → answer al (filling r m q ys) ≡ answer al (filling r n q ys))
          → (v : Answer (Piece A)) → answer al (r p (x ∷ xs)) ≡ v → and_then v (λ a. answer al (one m a)) ≡ and_then v (λ a. answer al (one n a))
      go same (given a) e =
          let z = s.sized p (x ∷ xs) a e in
          let l = length-drop a.size (x ∷ xs) in
          answer_bind al (filling r m (p + a.size) (drop a.size (x ∷ xs))) (λ more. ends (a.value ∷ more))
          ∙ ap (λ t. and_then t (λ more. given (a.value ∷ more))) (same (p + a.size) (drop a.size (x ∷ xs)) (omega (arith, z, l)) (omega (arith, z, l)))
          ∙ sym (answer_bind al (filling r n (p + a.size) (drop a.size (x ∷ xs))) (λ more. ends (a.value ∷ more)))
      go same (refused n q z) e = refl

-- what a whole sheet's two laws come to
pub record Law {A : Type 0} (w : List ℕ → Walk A) (E : A → List ℕ) (F : A → Type 0) (Y : A → List ℕ) : Type 0 where
  pub sound : (al : ℕ → Bool) (s : List ℕ) → Bytes s → (a : A) → answer al (w s) ≡ given a → F a × Allowed al (Y a) × (E a ≡ s)
  pub complete : (al : ℕ → Bool) (a : A) → F a → Allowed al (Y a) → answer al (w (E a)) ≡ given a

module _ {A : Type 0} (w : List ℕ → Walk A) (E : A → List ℕ) (F : A → Type 0) (Y : A → List ℕ) (L : Law w E F Y) where
  pub law_read : (a : A) → F a → outcome (w (E a)) ≡ ends a
  law_read a f = (outcome-is (w (E a)) a).1 (L.complete always a f (allowed-always (Y a)))

  pub law_exact : (s : List ℕ) → Bytes s → (a : A) → (outcome (w s) ≡ ends a) ↔ (F a × (E a ≡ s))
  law_exact s bs a = (
    λ e. let r = L.sound always s bs a ((outcome-is (w s) a).0 e) in (r.0, r.2),
    λ f. subst (λ u. outcome (w u) ≡ ends a) f.1 (law_read a f.0),
  )

  pub law_year : (s : List ℕ) → Bytes s → (a : A) → outcome (w s) ≡ ends a → (y : ℕ) → (answer (up_to y) (w s) ≡ given a) ↔ (All (λ z. z ≤ y) (Y a))
  law_year s bs a e y =
      let f = (law_exact s bs a).0 e in
      let n = allowed-up_to y (Y a) in
      (λ h. n.0 (L.sound (up_to y) s bs a h).1, λ h. subst (λ u. answer (up_to y) (w u) ≡ given a) f.1 (L.complete (up_to y) a f.0 (n.1 h)))

  -- two values that are written alike are one
  pub law_once : (a b : A) → F a → F b → E a ≡ E b → a ≡ b
  law_once a b f g e =
      let h : outcome (w (E a)) ≡ ends a = law_read a f in
      let i : outcome (w (E a)) ≡ ends b = subst (λ u. outcome (w u) ≡ ends b) (sym e) (law_read b g) in
      cc
