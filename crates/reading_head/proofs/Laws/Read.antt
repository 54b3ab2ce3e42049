-- What a sheet that is read has: 452 bytes at least, and its head and its tails as they stand in them.
use mathlib.Core.List.{List}
use mathlib.Core.Path.{◌≡◌}
use Prim.Native.Nat.{ℕ, ◌≤◌}
use lib.ListN.{length}
use Rattle.fields.specs.Texts.{text_at}
use Rattle.layout.specs.declared.TextAt.{TextAt}
use Rattle.layout.specs.Answers.Enums.{head_at}
use Rattle.layout.specs.Bytes.{number_in, bytes_in}
use Rattle.layout.specs.Fields.Descriptor
use Rattle.layout.specs.Fields.Passport
use Rattle.layout.specs.Reading.Sheets.{start, size_checks, head_in, tails_in, sheet_walk}
use Rattle.layout.specs.Sheet.{Sheet}
use Rattle.layout.specs.Walk.{outcome, ends, always}
use Rattle.laws.proofs.Base.Walks.{checks_case, outcome-is}
use Rattle.laws.proofs.Reading.Sheets.{size_holds, sheet-ends}
use Rattle.reading_head.specs.Read.{Read}

pub read-long : (s : List ℕ) → Read s → start ≤ length s
unfolding sheet_walk
read-long s r =
    checks_case always 0 (size_checks s) _ r.sheet ((outcome-is (sheet_walk s) r.sheet).0 r.read) λ c y e. (size_holds s c).0

pub read_head : (s : List ℕ) (t : Sheet) → outcome (sheet_walk s) ≡ ends t → t.head ≡ head_in s
read_head s t e = (sheet-ends always s t ((outcome-is (sheet_walk s) t).0 e)).0

pub read-tails : (s : List ℕ) (t : Sheet) → outcome (sheet_walk s) ≡ ends t → t.tails ≡ tails_in s
read-tails s t e = (sheet-ends always s t ((outcome-is (sheet_walk s) t).0 e)).2

-- what is answered of the four text fields and of the scale is the head's answer
pub head-answered : (s : List ℕ) (t : Sheet) → outcome (sheet_walk s) ≡ ends t → (date designation title designation2 : TextAt) (scale : ℕ)
    → date ≡ text_at (bytes_in Passport.date s) → designation ≡ text_at (bytes_in Passport.designation s) → title ≡ text_at (bytes_in Passport.title s)
    → designation2 ≡ text_at (bytes_in Descriptor.designation s) → scale ≡ number_in Passport.scale s
    → record { date = date; designation = designation; scale = scale; title = title; designation2 = designation2 } ≡ head_at t.head t.tails
head-answered s t e date designation title designation2 scale d g k m n = rw (read_head s t e, read-tails s t e, d, g, k, m, n)
