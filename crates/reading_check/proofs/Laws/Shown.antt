-- What the code answers of a walk that is made of walks, over the counts alone.
use mathlib.Core.List.{List, ◌∷◌}
use mathlib.Core.Path.{◌≡◌, refl, sym, ap, ◌∙◌}
use Prim.Native.Nat.{ℕ, zero, suc, ◌+◌}
use lib.ListN.{drop, length-append}
use lib.Seq.{drop-drop}
use native.Mathlib.Nat.{zero-add, suc-add, add_assoc, add-zero}
use Rattle.reading_check.specs.Tally.{none, add, tally_of, tally, shown}
pub use Rattle.reading_check.specs.Tally.{next, plus}
use Rattle.reading_check.specs.declared.tally.Tally.{Tally}
use Rattle.layout.specs.Answers.Calls.{and_then}
use Rattle.layout.specs.Sheet.{Table}
use Rattle.layout.specs.Walk.{Walk, Answer, given, refused, answer, up_to, ends, ◌>>=◌, Piece, piece, Reader, times}
use Rattle.layout.specs.Writing.Tables.{join, joined}
use Rattle.laws.proofs.Base.Walks.{answer_bind}
use Rattle.layout.specs.declared.Refusal.{Refusal}
use Rattle.std.specs.Prelude.{Result, Ok, Err}
use Rattle.layout.specs.Answers.Enums.{result_of}

pub add-add : (a b c : Tally) → add (add a b) c ≡ add a (add b c)
add-add a b c = simp add_assoc

pub plus-plus : (a b : Tally) (k : Result Tally Refusal) → plus (add a b) k ≡ plus a (plus b k)
plus-plus a b (Ok z) = ap Ok (add-add a b z)
plus-plus a b (Err r) = refl

pub plus_none : (k : Result Tally Refusal) → plus none k ≡ k
plus_none (Ok z) = simp zero-add
plus_none (Err r) = refl

-- tables one after another
pub tally-join : (m n : ℕ) (s t : Table) → tally_of (m + n) (join s t) ≡ add (tally_of m s) (tally_of n t)
tally-join m n s t = simp length-append

-- where what follows goes by the counts alone
pub shown_bind : {A B : Type 0} (y : ℕ) (f : A → Tally) (g : B → Tally) (w : Walk A) (k : A → Walk B) (h : Tally → Result Tally Refusal)
    → ((a : A) → shown g y (k a) ≡ h (f a)) → shown g y (w >>= k) ≡ next (shown f y w) h
shown_bind {A} {B} y f g w k h e = ap (result_of g) (answer_bind (up_to y) w k) ∙ go (answer (up_to y) w)
  where
    go : (v : Answer A) → result_of g (and_then v (λ a. answer (up_to y) (k a))) ≡ next (result_of f v) h
    go (given a) = e a
    go (refused n p z) = refl

next-plus : (a : Tally) (k : Result Tally Refusal) → next k (λ z. Ok (add a z)) ≡ plus a k
next-plus a (Ok z) = refl
next-plus a (Err r) = refl

-- a walk after which only a first piece's counts are added
pub shown-plus : {A B : Type 0} (y : ℕ) (f : A → Tally) (g : B → Tally) (w : Walk A) (k : A → B) (first : Tally)
    → ((a : A) → g (k a) ≡ add first (f a)) → shown g y (w >>= λ a. ends (k a)) ≡ plus first (shown f y w)
shown-plus y f g w k first e =
    shown_bind y f g w (λ a. ends (k a)) (λ z. Ok (add first z)) (λ a. ap Ok (e a)) ∙ next-plus first (shown f y w)

module _ {A : Type 0} (y : ℕ) (f : A → Table) (r : Reader A) where
  cons_shown : (a : Piece A) (v : Walk (Piece (List A)))
      → shown (tally (joined f)) y (v >>= λ more. ends (piece (a.value ∷ more.value) (a.size + more.size)))
      ≡ plus (tally f a) (shown (tally (joined f)) y v)
  cons_shown a v =
      shown-plus y (tally (joined f)) (tally (joined f)) v _ (tally f a)
      (λ more. tally-join a.size more.size (f a.value) (joined f more.value))

  -- the law of the loops that count: n + 1 pieces are the first, and then the n others with the first's counts added
  pub times-shown : (n p : ℕ) (xs : List ℕ) → shown (tally (joined f)) y (times (suc n) r p xs)
      ≡ next (shown (tally f) y (r p xs)) (λ z. plus z (shown (tally (joined f)) y (times n r (p + z.used) (drop z.used xs))))
  times-shown n p xs = shown_bind y (tally f) (tally (joined f)) (r p xs) _ _ (λ a. cons_shown a (times n r (p + a.size) (drop a.size xs)))

  -- the same for k pieces and then m others
  pub times_split : (k m p : ℕ) (xs : List ℕ) → shown (tally (joined f)) y (times (k + m) r p xs)
      ≡ next (shown (tally (joined f)) y (times k r p xs)) (λ z. plus z (shown (tally (joined f)) y (times m r (p + z.used) (drop z.used xs))))
  times_split zero m p xs = simp (zero-add, add-zero) (sym (plus_none (shown (tally (joined f)) y (times m r p xs))))
  times_split (suc k) m p xs =
      rw (suc-add k m, times-shown (k + m) p xs, times-shown k p xs)
      (first (shown (tally f) y (r p xs)) (λ z. times_split k m (p + z.used) (drop z.used xs)))
    where
      others : (z : Tally) (v : Result Tally Refusal)
          → plus z (next v (λ w. plus w (shown (tally (joined f)) y (times m r (p + z.used + w.used) (drop w.used (drop z.used xs))))))
          ≡ next (plus z v) (λ w. plus w (shown (tally (joined f)) y (times m r (p + w.used) (drop w.used xs))))
      others z (Ok w) =
          simp (add_assoc, drop-drop)
          (sym (plus-plus z w (shown (tally (joined f)) y (times m r (p + (z.used + w.used)) (drop (z.used + w.used) xs)))))
      others z (Err q) = refl

      first : (v : Result Tally Refusal)
          → ((z : Tally) → shown (tally (joined f)) y (times (k + m) r (p + z.used) (drop z.used xs))
          ≡ next (shown (tally (joined f)) y (times k r (p + z.used) (drop z.used xs)))
          (λ w. plus w (shown (tally (joined f)) y (times m r (p + z.used + w.used) (drop w.used (drop z.used xs))))))
          → next v (λ z. plus z (shown (tally (joined f)) y (times (k + m) r (p + z.used) (drop z.used xs))))
          ≡ next (next v (λ z. plus z (shown (tally (joined f)) y (times k r (p + z.used) (drop z.used xs)))))
          (λ w. plus w (shown (tally (joined f)) y (times m r (p + w.used) (drop w.used xs))))
      first (Ok z) split =
          ap (plus z) (split z) ∙ others z (shown (tally (joined f)) y (times k r (p + z.used) (drop z.used xs)))
      first (Err q) split = refl
