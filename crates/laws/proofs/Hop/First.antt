-- What `first_with` tells of the records that it is given: one with the code and none before it, or that there is none.
use mathlib.Core.Bool.{Bool, true, false, cond}
use mathlib.Core.List.{List, [], ◌∷◌}
use mathlib.Core.Path.{◌≡◌, refl, ap, ◌∙◌, subst}
use Prim.Native.Nat.{ℕ, zero, suc, ◌+◌, ◌≤◌}
use borrow.Author.Tests.{eq-eqb, eqb-true}
use lib.Dec.{eqb}
use lib.ListN.{length}
use native.Mathlib.Omega.{arith}
use Rattle.layout.specs.Answers.Calls.{Placed, record_of}
use Rattle.layout.specs.Hop.{hit, looked_for, first_with}
use Rattle.layout.specs.Layout.Encode.{encode_record}
use Rattle.layout.specs.Sheet.{Record}
use Rattle.layout.specs.Walk.{given}
use Rattle.layout.specs.declared.Hop.{Hop}
use Rattle.layout.specs.declared.Hit.{Hit}
use Rattle.std.specs.Prelude.{Option, Some, None}

pub some_inj : {A : Type 0} {a b : A} → Some a ≡ Some b → a ≡ b
some_inj e = cc

-- h is a hit among the records l, of which the first has the number n and starts at a place
pub record HitIn (wanted n place : ℕ) (l : List Record) (h : Hit) : Type 0 where
  pub number : ℕ
  pub value : Record
  pub is : h.«record» ≡ n + number
  pub asked : record_of place l number ≡ given (record { place = h.place; value = value })
  pub total : h.total ≡ length (encode_record value)
  pub code : value.code ≡ wanted

pub first-hit : (wanted n place : ℕ) (l : List Record) (h : Hit) → (first_with wanted n place l).hit ≡ Some h → HitIn wanted n place l h
first-hit wanted n place [] h e = absurd (let z : ◌≡◌ {A = ℕ} 0 1 = cc in omega arith)
first-hit wanted n place (r ∷ l) h e = go (first-hit wanted (suc n) (place + length (encode_record r)) l h) (eqb r.code wanted) refl e
  where
    total : ℕ
    total = length (encode_record r)

    rest : Hop
    rest = first_with wanted (suc n) (place + total) l

    go : (rest.hit ≡ Some h → HitIn wanted (suc n) (place + total) l h) → (b : Bool) → eqb r.code wanted ≡ b
        → (cond b (hit n place total) rest).hit ≡ Some h → HitIn wanted n place (r ∷ l) h
    go k true e f =
        subst (HitIn wanted n place (r ∷ l)) (some_inj f)
        (record { number = 0; value = r; is = omega arith; asked = refl; total = refl; code = eqb-true r.code wanted e })
    go k false e f =
        let i = k f in
        record { number = suc i.number; value = i.value; is = omega (arith, i.is); asked = i.asked; total = i.total; code = i.code }

-- a record with the code is found, or one before it is
pub first_only : (wanted n place : ℕ) (l : List Record) (k : ℕ) (p : Placed) → record_of place l k ≡ given p → p.value.code ≡ wanted
    → (h : Hit) × ((first_with wanted n place l).hit ≡ Some h) × (h.«record» ≤ n + k)
first_only wanted n place [] k p e c = absurd (let z : ◌≡◌ {A = ℕ} 0 1 = cc in omega arith)
first_only wanted n place (r ∷ l) zero p e c =
    let is : r ≡ p.value = cc in
    rw (eq-eqb r.code wanted (ap (λ (x : Record). x.code) is ∙ c)) (_, refl, omega arith)
first_only wanted n place (r ∷ l) (suc k) p e c =
    go (eqb r.code wanted) (first_only wanted (suc n) (place + length (encode_record r)) l k p e c)
  where
    rest : Hop
    rest = first_with wanted (suc n) (place + length (encode_record r)) l

    go : (b : Bool) → (h : Hit) × (rest.hit ≡ Some h) × (h.«record» ≤ suc n + k)
        → (h : Hit) × ((cond b (hit n place (length (encode_record r))) rest).hit ≡ Some h) × (h.«record» ≤ n + suc k)
    go true q = (_, refl, omega arith)
    go false (h, is, at) = (h, is, omega (arith, at))

-- how many were looked at: the hit's number plus one, or all
pub first_looked : (wanted n place : ℕ) (l : List Record)
    → (first_with wanted n place l).looked ≡ looked_for (first_with wanted n place l).hit (n + length l)
first_looked wanted n place [] = omega arith
first_looked wanted n place (r ∷ l) = go (eqb r.code wanted) (first_looked wanted (suc n) (place + length (encode_record r)) l)
  where
    rest : Hop
    rest = first_with wanted (suc n) (place + length (encode_record r)) l

    here : Hop
    here = hit n place (length (encode_record r))

    go : (b : Bool) → rest.looked ≡ looked_for rest.hit (suc n + length l)
        → (cond b here rest).looked ≡ looked_for (cond b here rest).hit (n + suc (length l))
    go true h = refl
    go false h = h ∙ ap (looked_for rest.hit) (omega arith)
