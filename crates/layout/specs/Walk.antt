-- A walk: what a reader comes upon in a sheet, in order, and how it comes out. It knows no setting.
-- The writer's walk over a record table is of the same kind.
use Rattle.std.specs.Prelude.{ℕ, zero, suc, ◌+◌, Bool, true, cond, List, [], ◌∷◌, ◌≡◌, leb, length, drop}
use Rattle.layout.specs.Refusals
use Rattle.layout.specs.declared.refusals.Reason.{Reason}

pub data Walk (A : Type 0) : Type 0 where
  -- a reading
  ends : A → Walk A
  -- a refusal of its own: reason, place
  stops : Reason → ℕ → Walk A
  -- comes upon a feature: place, year; then goes on
  meets : ℕ → ℕ → Walk A → Walk A

-- "A refusal returns number, place and year (0 except for TOO NEW)"
pub data Answer (A : Type 0) : Type 0 where
  given : A → Answer A
  refused : Reason → ℕ → ℕ → Answer A

-- A setting only decides how far a walk is followed: al says which years are allowed.
abbrev pub answer : {A : Type 0} → (ℕ → Bool) → Walk A → Answer A
answer al (ends a) = given a
answer al (stops reason place) = refused reason place 0
answer al (meets place year w) = cond (al year) (answer al w) (refused Refusals.TOO_NEW place year)

-- the years up to a setting
abbrev pub up_to : ℕ → ℕ → Bool
up_to setting year = leb year setting

-- every year: the 2017 reader
abbrev pub always : ℕ → Bool
always year = true

-- how a walk comes out where every year is allowed
abbrev pub outcome : {A : Type 0} → Walk A → Walk A
outcome (ends a) = ends a
outcome (stops reason place) = stops reason place
outcome (meets place year w) = outcome w

-- a feature that was met
pub record Met : Type 0 where
  pub place : ℕ
  pub year : ℕ

-- the features that a walk comes upon before its own end, in order
abbrev pub met : {A : Type 0} → Walk A → List Met
met (ends a) = []
met (stops reason place) = []
met (meets place year w) = record { place = place; year = year } ∷ met w

-- the first of these features that is later than a setting, if there is one: place, year
pub data Late : Type 0 where
  none : Late
  late : ℕ → ℕ → Late

abbrev pub first_late : ℕ → List Met → Late
first_late setting [] = none
first_late setting (m ∷ ms) = cond (leb m.year setting) (first_late setting ms) (late m.place m.year)

-- TOO NEW at that feature, if there is one, and else the answer a
abbrev pub or_too_new : {A : Type 0} → Late → Answer A → Answer A
or_too_new none a = a
or_too_new (late place year) a = refused Refusals.TOO_NEW place year

-- One walk after another. In a `do` block each line is a walk that must come to its end before the next begins, and `x ← walk` names
-- what it ended in.
infixl 20 ◌>>=◌
infixl 20 ◌>>◌
abbrev pub ◌>>=◌ : {A B : Type 0} → Walk A → (A → Walk B) → Walk B
◌>>=◌ (ends a) f = f a
◌>>=◌ (stops reason place) f = stops reason place
◌>>=◌ (meets place year w) f = meets place year (w >>= f)

abbrev pub ◌>>◌ : {A : Type 0} → Walk (Unit {0}) → Walk A → Walk A
w >> v = w >>= λ _. v

-- Checks are data. A test must hold, or this refusal is given at that place; a feature is met, of a year, at a place.
-- Places count from the start of the piece that is checked.
pub data Check : Type 0 where
  must : Bool → Reason → ℕ → Check
  dated : Bool → ℕ → ℕ → Check

-- the checks of a piece that starts at a place, one after another
abbrev pub checks : ℕ → List Check → Walk (Unit {0})
checks start [] = ends tt
checks start (must test reason place ∷ cs) = cond test (checks start cs) (stops reason (start + place))
checks start (dated test year place ∷ cs) = cond test (meets (start + place) year (checks start cs)) (checks start cs)

-- A piece that was read: its value, and how many bytes it took.
pub record Piece (A : Type 0) : Type 0 where
  pub value : A
  pub size : ℕ

abbrev pub piece : {A : Type 0} → A → ℕ → Piece A
piece value size = record { value = value; size = size }

-- the reader of a piece: its place, and the bytes from there on
abbrev pub Reader : Type 0 → Type 0
Reader A = ℕ → List ℕ → Walk (Piece A)

-- n pieces, one after another
abbrev pub times : {A : Type 0} → ℕ → Reader A → Reader (List A)
times zero one place xs = ends (piece [] 0)
times (suc n) one place xs = do
  a ← one place xs
  more ← times n one (place + a.size) (drop a.size xs)
  ends (piece (a.value ∷ more.value) (a.size + more.size))

-- a piece, and then another
pub record Pair (A B : Type 0) : Type 0 where
  pub first : A
  pub second : B

abbrev pub pair : {A B : Type 0} → Reader A → Reader B → Reader (Pair A B)
pair one other place xs = do
  a ← one place xs
  b ← other (place + a.size) (drop a.size xs)
  ends (piece (record { first = a.value; second = b.value }) (a.size + b.size))

-- pieces up to the end of the bytes; there are at most `most`, for each takes a byte at least
abbrev pub filling : {A : Type 0} → Reader A → ℕ → ℕ → List ℕ → Walk (List A)
filling one zero place xs = ends []
filling one (suc most) place [] = ends []
filling one (suc most) place (x ∷ xs) = do
  a ← one place (x ∷ xs)
  more ← filling one most (place + a.size) (drop a.size (x ∷ xs))
  ends (a.value ∷ more)

abbrev pub fill : {A : Type 0} → Reader A → ℕ → List ℕ → Walk (List A)
fill one place xs = filling one (length xs) place xs

-- one piece that takes all of the bytes; bytes left over are refused at the first of them
abbrev pub whole : {A : Type 0} → Reason → Reader A → ℕ → List ℕ → Walk A
whole reason one place xs = do
  a ← one place xs
  checks (place + a.size) (must (leb (length xs) a.size) reason 0 ∷ [])
  ends a.value

-- what a list of checks asks, and the years of what it comes upon
abbrev pub Holds : List Check → Type 0
Holds [] = Unit {0}
Holds (must test reason place ∷ cs) = (test ≡ true) × Holds cs
Holds (dated test year place ∷ cs) = Holds cs

abbrev pub years_of : List Check → List ℕ
years_of [] = []
years_of (must test reason place ∷ cs) = years_of cs
years_of (dated test year place ∷ cs) = cond test (year ∷ years_of cs) (years_of cs)
