-- The mark and the counts of points. (01, Record; 02, request 2)
use Rattle.std.specs.Prelude.{ℕ, ◌+◌, ◌*◌, ◌/◌, ◌%◌, Bool, true, false, cond, ◌||◌, ◌≡◌, refl, eqb, ltb}

-- "Points 65535 is a mark: the count is the word at +24 [..]. Without the mark the word is carried unread." (01) "Document 01 refuses it
-- because the word at +24 is below 65535. That was our misreading: under the mark any count in the word is good." (02)
abbrev pub marked_points : ℕ
marked_points = 65535

abbrev pub is_mark : ℕ → Bool
is_mark points = eqb points marked_points

-- the first part's count, by the points at +30 and the word at +24
abbrev pub first_count : ℕ → ℕ → ℕ
first_count points word = cond (is_mark points) word points

-- "The record row gains a ninth number, mark 0 or 1, so that reading and writing still match byte for byte" (02): the mark by the points
-- at +30
abbrev pub mark_of : ℕ → ℕ
mark_of points = cond (is_mark points) 1 0

abbrev pub has_mark : ℕ → Bool
has_mark mark = eqb mark 1

-- what is put at +30, by the mark and the first count
abbrev pub points_of : ℕ → ℕ → ℕ
points_of mark count = cond (has_mark mark) marked_points count

-- a first count that goes with the mark and the word: "a first count over 65534 needs mark 1", and no "mark 1 with a word that differs
-- from the first count" (02)
abbrev pub good_first : ℕ → ℕ → ℕ → Bool
good_first mark word count = cond (has_mark mark) (eqb word count) (ltb count marked_points)

-- "Each subobject starts with N1 and N2 [..]. With the mark its count is N2 + 65536 × N1. Without it N1 must be 0."
abbrev pub upper : ℕ
upper = 65536

abbrev pub later_count : ℕ → ℕ → ℕ
later_count n1 n2 = n2 + upper * n1

-- N1 of a record that has the mark or not
abbrev pub good_n1 : Bool → ℕ → Bool
good_n1 marked n1 = marked || eqb n1 0

-- the other way round
abbrev pub n1_of : ℕ → ℕ
n1_of count = count / upper

abbrev pub n2_of : ℕ → ℕ
n2_of count = count % upper

cases : (first_count 65534 9 ≡ 65534) × (first_count 65535 70000 ≡ 70000) × (first_count 65535 10 ≡ 10) × (mark_of 65534 ≡ 0) × (mark_of 65535 ≡ 1)
    × (points_of 0 65534 ≡ 65534) × (points_of 1 70000 ≡ 65535) × (points_of 1 10 ≡ 65535)
    × (good_first 0 9 65534 ≡ true) × (good_first 0 65535 65535 ≡ false)
    × (good_first 1 10 10 ≡ true) × (good_first 1 70000 70000 ≡ true) × (good_first 1 10 11 ≡ false)
    × (good_n1 true 1 ≡ true) × (good_n1 false 0 ≡ true) × (good_n1 false 1 ≡ false)
    × (later_count 1 4464 ≡ 70000) × (n1_of 70000 ≡ 1) × (n2_of 70000 ≡ 4464) × (n1_of 65535 ≡ 0)
cases = (refl, refl, refl, refl, refl, refl, refl, refl, refl, refl, refl, refl, refl, refl, refl, refl, refl, refl, refl, refl)
