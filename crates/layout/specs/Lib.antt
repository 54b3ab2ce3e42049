-- What document 01 says, and what of document 02 has landed, as definitions. What a public call answers is said by these; nobody has to believe anything else.
--
-- A line in quotation marks is document 01's own, or document 02's where it says so. To check a page against them it is enough to know:
--   ℕ                      a number from 0 on, as large as it may be: nothing wraps
--   a ∷ b ∷ []             a list of a and b;  s ++ t  one list after another;  length, take n, drop n  as they say
--   get_or s n d           what stands at index n of the list s, or d past its end;  map f s  the list of f of each
--   leb a b, ltb a b       the tests a ≤ b and a < b;  eqb a b  that they are equal;  && || not  as in any language
--   a - b                  the difference, or 0 where b is the larger
--   cond test a b          a if the test holds, else b
--   must test REFUSAL at   a check: the test holds, or this refusal is given at this place, counted from the piece's start
--   dated test year at     a check: where the test holds a feature of this year is met at this place
--   checks start [..]      the checks of a piece that starts at a place, in order
--   do, x ← walk           one walk after another; x is what the walk ended in
--   number_in f xs         the number that stands in the field f of the piece whose bytes are xs
--   f x y                  a function of x and y;  λ x. e  the function that gives e for x;  r.field  a field of a record
-- `abbrev` and `unfoldable` say only how a proof may open a definition.
pub mod Refusals
pub mod Years
pub mod Bytes
pub mod Fields
pub mod Sheet
pub mod Walk
pub mod Shared
pub mod Reading
pub mod Layout
pub mod Writing
pub mod Answers
pub mod Codings
pub mod Index
pub mod Hop
pub mod Computing
