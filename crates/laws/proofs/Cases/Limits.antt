-- Sheets to 64 MiB (02, request 7): nothing of that size is computed, so these are general statements.
use Prim.Native.Nat.{ℕ}
use mathlib.Core.List.{List, [], ◌∷◌, ◌++◌}
use mathlib.Core.Path.{◌≡◌, ap}
use borrow.Author.Tests.{le-leb}
use lib.ListN.{length, replicate}
use native.Mathlib.Omega.{arith}
use Rattle.layout.specs.Answers.Calls.{reading}
use Rattle.layout.specs.Bytes.{repeat, low32}
use Rattle.layout.specs.Fields.{limit}
use Rattle.layout.specs.Reading.Sheets.{start, whole_sum, sum_of, sheet_walk, size_checks}
use Rattle.layout.specs.Refusals.{TOO_LONG}
use Rattle.layout.specs.Walk.{refused, Holds}
use Rattle.laws.proofs.Base.Lists.{◌&◌}
use Rattle.laws.proofs.Base.Numbers.{total-repeat}

-- "Raise it to 67,108,864 bytes"; "1 at the new limit"
pub at-limit : (s : List ℕ) → length s ≡ 67108864 → Holds (size_checks s)
unfolding size_checks
at-limit s e = le-leb (length s) limit (omega (arith, e)) & le-leb start (length s) (omega (arith, e)) & tt

pub past-limit : (s : List ℕ) → length s ≡ 67108865 → reading 2017 s ≡ refused TOO_LONG 0 0
unfolding reading sheet_walk size_checks
past-limit s e = rw e

-- "The sum may now pass 32 bits, and only its low 32 are kept.": 16,843,014 bytes of 255, of which four are not counted, add up to 2^32 + 254. These
-- bytes are no sheet; sheets whose sum passes 32 bits are run (rust/tests).
pub past_32_bits : (n : ℕ) → n ≡ 16842998 → (s : List ℕ) → s ≡ replicate 16 255 ++ repeat n (255 ∷ []) → (whole_sum s ≡ 4294967550) × (sum_of s ≡ 254)
past_32_bits n e s is =
    let whole : whole_sum s ≡ 4294967550 = rw is (omega (arith, e, total-repeat n (255 ∷ []))) in
    (whole, ap low32 whole)
