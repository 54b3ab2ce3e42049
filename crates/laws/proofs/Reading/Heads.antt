-- Passport and descriptor as one row of fields.
use mathlib.Core.List.{List, [], ◌∷◌, ◌++◌, append_assoc, append-nil}
use mathlib.Core.Path.{◌≡◌, refl}
use Prim.Native.Nat.{ℕ, ◌^◌, ◌<◌}
use lib.ListN.{replicate}
use native.Mathlib.Omega.{arith}
use Rattle.layout.specs.Bytes.{stored}
use Rattle.layout.specs.Fields.Descriptor
use Rattle.layout.specs.Fields.Passport
use Rattle.layout.specs.Layout.Encode.{encode_head}
use Rattle.layout.specs.Layout.Fine.{FineHead, FineTails}
use Rattle.layout.specs.Shared.Texts.{tailed}
use Rattle.layout.specs.Sheet.{Head, Tails}
use Rattle.laws.proofs.Base.Lists.{◌&◌}
use Rattle.laws.proofs.Base.Rows.{Column, num, raw, text, Vals, put_row, FitRow, InLine}

abbrev pub columns : List Column
columns =
    num Passport.identifier ∷ num Passport.own_length ∷ num Passport.edition ∷ num Passport.sum
    ∷ text Passport.date ∷ text Passport.designation ∷ num Passport.scale ∷ text Passport.title ∷ raw Passport.rest
    ∷ num Descriptor.identifier ∷ num Descriptor.own_length ∷ text Descriptor.designation ∷ num Descriptor.count
    ∷ raw Descriptor.carried ∷ raw Descriptor.reserved ∷ []

-- they stand one after another
pub in_line : InLine 0 columns
in_line = refl & refl & refl & refl & refl & refl & refl & refl & refl & refl & refl & refl & refl & refl & refl & tt

-- a head, with the tails of its texts, a sum and a record count
abbrev pub row_of : Head → Tails → ℕ → ℕ → Vals columns
row_of h a sum count =
    (Passport.identifier_is & Passport.own_length_is & Passport.edition_is & sum
    & (h.date, a.date) & (h.designation, a.designation) & h.scale & (h.title, a.title) & h.rest
    & Descriptor.identifier_is & Descriptor.own_length_is & (h.designation2, a.designation2) & count & h.carried & replicate 4 0 & tt)

-- the row's values by their names
pub record Row : Type 0 where
  pub identifier : ℕ
  pub own_length : ℕ
  pub edition : ℕ
  pub sum : ℕ
  pub head : Head
  pub tails : Tails
  pub identifier2 : ℕ
  pub own_length2 : ℕ
  pub count : ℕ
  pub reserved : List ℕ

abbrev pub named : Vals columns → Row
named u =
    let p = u.1.1.1.1 in
    let d = p.1.1.1.1.1 in
    let head : Head = record {
      date = p.0.0;
      designation = p.1.0.0;
      scale = p.1.1.0;
      title = p.1.1.1.0.0;
      rest = p.1.1.1.1.0;
      designation2 = d.1.1.0.0;
      carried = d.1.1.1.1.0;
    } in
    let tails : Tails = record {
      date = p.0.1;
      designation = p.1.0.1;
      title = p.1.1.1.0.1;
      designation2 = d.1.1.0.1;
    } in
    record {
      identifier = u.0;
      own_length = u.1.0;
      edition = u.1.1.0;
      sum = u.1.1.1.0;
      head = head;
      tails = tails;
      identifier2 = d.0;
      own_length2 = d.1.0;
      count = d.1.1.1.0;
      reserved = d.1.1.1.1.1.0;
    }

-- fifteen lists, one after another
regroup : (a b c d e f g h i j k l m n o : List ℕ)
    → a ++ b ++ c ++ d ++ e ++ f ++ g ++ h ++ i ++ j ++ k ++ l ++ m ++ n ++ o
    ≡ a ++ (b ++ (c ++ (d ++ (e ++ (f ++ (g ++ (h ++ (i ++ (j ++ (k ++ (l ++ (m ++ (n ++ (o ++ []))))))))))))))
regroup a b c d e f g h i j k l m n o = simp (append_assoc, append-nil)

pub head-is : (h : Head) (a : Tails) (sum count : ℕ) → encode_head h a sum count ≡ put_row columns (row_of h a sum count)
unfolding encode_head
head-is h a sum count =
    regroup (stored Passport.identifier Passport.identifier_is) (stored Passport.own_length Passport.own_length_is)
    (stored Passport.edition Passport.edition_is) (stored Passport.sum sum)
    (tailed h.date a.date) (tailed h.designation a.designation)
    (stored Passport.scale h.scale) (tailed h.title a.title) h.rest
    (stored Descriptor.identifier Descriptor.identifier_is) (stored Descriptor.own_length Descriptor.own_length_is)
    (tailed h.designation2 a.designation2) (stored Descriptor.count count) h.carried (replicate (Descriptor.reserved).width 0)

pub head-fits : (h : Head) (a : Tails) (sum count : ℕ) → FineHead h → FineTails h a → sum < 256 ^ 4 → count < 256 ^ 4
    → FitRow columns (row_of h a sum count)
head-fits h a sum count f g s c =
    (omega arith & omega arith & omega arith & s & (f.date, g.date) & (f.designation, g.designation) & f.scale & (f.title, g.title) & f.rest
    & omega arith & omega arith & (f.designation2, g.designation2) & c & f.carried & (refl, omega arith) & tt)
