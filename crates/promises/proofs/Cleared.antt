-- The cleared sheet as a promise of the calls' contracts: at every setting each call answers of it as of the sheet, a refusal too; but the sum is its
-- own, and all four text fields are clean. (02, 6)
use mathlib.Core.List.{List}
use mathlib.Core.Path.{◌≡◌, refl, sym, ap, ◌∙◌, subst}
use Prim.Native.Nat.{ℕ}
use lib.ListN.{length}
use Rattle.layout.specs.Answers.Calls.{and_then, reading, in_rooms, unfolded, roomy, roomed, lent, record_of, asked}
use Rattle.layout.specs.Answers.Enums.{refusal, sizes_of, checked_of, head_at, headed_of, found_of, unit_in, corners_in, written_of, hopped_of}
use Rattle.layout.specs.Answers.Lent.{rooms, the_numbers, the_elements, the_bytes, the_given}
use Rattle.layout.specs.Bytes.{Bytes}
use Rattle.layout.specs.Index.Blocks.{encode_index}
use Rattle.layout.specs.Index.Selecting.{entries_of, index_by, index_of, pick_records, picked}
use Rattle.layout.specs.Layout.Cleared.{cleared}
use Rattle.layout.specs.Reading.Sheets.{start}
use Rattle.layout.specs.Shared.Tails.{clean_tails, clean_of}
use Rattle.layout.specs.Sheet.{Sheet, Table}
use Rattle.layout.specs.Walk.{Answer, given, refused}
use Rattle.layout.specs.Writing.Tables.{flatten}
use Rattle.layout.specs.declared.BlockKind.TheVariants.{New}
use Rattle.layout.specs.declared.Corners.{Corners}
use Rattle.layout.specs.declared.Sizes.{Sizes}
use Rattle.laws.proofs.Again.{cleared-reads, cleared-bytes}
use Rattle.laws.proofs.Alike.{cleared_alike}
use Rattle.laws.proofs.Hop.Reads.{hop-reads, frame-reads}
use Rattle.promises.proofs.Contracts.{Checks, Heads, Units, Cornered, Finds, Unfolds, Gives, FirstWith, FrameOf}
use Rattle.promises.proofs.Exact.{unfold_told}
use Rattle.promises.proofs.Heads.{head-is, head-given, says_clean}
use Rattle.promises.specs.Hands.{head_by, sumless, SameHead}
use Rattle.reading.proofs.Laws.Seen.{by_accepted}
use Rattle.layout.specs.declared.RecordAt.{RecordAt}
use Rattle.layout.specs.declared.HeadAt.{HeadAt}
use Rattle.layout.specs.declared.Hop.{Hop}
use Rattle.layout.specs.declared.SheetUnit.{SheetUnit}
use Rattle.layout.specs.declared.Refusal.{Refusal}
use Rattle.std.specs.Prelude.{Result, Ok, Err}

-- For the functions of src/tails.rt: x is the cleared sheet of s, which is read as u.
module _ (y : ℕ) (s : List ℕ) (bs : Bytes s) (u : Sheet) (e : reading y s ≡ given u) (x : List ℕ) (is : x ≡ cleared s) where
  reads : reading y x ≡ given (clean_of u)
  reads = ap (λ v. reading y v) is ∙ (cleared-reads y s bs u e y).0 e

  pub head-cleared : (r : Result HeadAt Refusal) → Heads y x r → r ≡ Ok (head_at u.head (clean_tails u.head))
  unfolding headed_of
  head-cleared r c = c ∙ ap headed_of reads

  pub unfold_cleared : (t₀ e₀ b₀ t₁ e₁ b₁ : List ℕ) (r : Result Sizes Refusal) → Unfolds y x t₀ e₀ b₀ t₁ e₁ b₁ r
      → (r ≡ checked_of (and_then (in_rooms (rooms t₀ e₀ b₀) (flatten u.records)) (λ _. given (clean_of u))))
      × (t₁ ≡ lent the_numbers (in_rooms (rooms t₀ e₀ b₀) (flatten u.records)) t₀)
      × (e₁ ≡ lent the_elements (in_rooms (rooms t₀ e₀ b₀) (flatten u.records)) e₀)
      × (b₁ ≡ lent the_bytes (in_rooms (rooms t₀ e₀ b₀) (flatten u.records)) b₀)
  unfold_cleared = unfold_told y x (clean_of u) reads

-- where the rooms are too small both are refused alike
told_alike : (x : Answer Table) (t : Sheet) → sumless (checked_of (and_then x (λ _. given (clean_of t)))) ≡ sumless (checked_of (and_then x (λ _. given t)))
unfolding checked_of
told_alike (given a) t = refl
told_alike (refused number place year) t = refl

-- what does not look at the tails tells the same of a cleared sheet
blind : {B : Type 0} (f : Answer Sheet → B) → ((t : Sheet) → f (given (clean_of t)) ≡ f (given t)) → (a : Answer Sheet)
    → f (and_then a (λ t. given (clean_of t))) ≡ f a
blind f h (given t) = h t
blind f h (refused number place year) = refl

-- `check` accepts s at some setting y. Then every call that takes a setting answers at every v, a setting or not, of the cleared sheet as of s.
module _ (y : ℕ) (s : List ℕ) (bs : Bytes s) (z : Sizes) (c : Checks y s (Ok z)) (v : ℕ) where
  alike : reading v (cleared s) ≡ and_then (reading v s) (λ t. given (clean_of t))
  alike = let u = by_accepted (reading y s) z c in cleared_alike y s bs u.0 u.1 v

  -- `check` accepts both or neither, with the same sizes but for the sum, or the same refusal;
  pub cleared-checks : (r q : Result Sizes Refusal) → Checks v s r → Checks v (cleared s) q → sumless q ≡ sumless r
  unfolding checked_of
  cleared-checks r q a b =
      let told : Answer Sheet → (Result Sizes Refusal) = λ x. sumless (checked_of x) in
      ap sumless b ∙ ap told alike ∙ blind told (λ t. refl) (reading v s) ∙ sym (ap sumless a)

  -- `unfold` does too, and leaves the same in the slices;
  pub cleared_unfolds : (t₀ e₀ b₀ t₁ e₁ b₁ t₂ e₂ b₂ : List ℕ) (r q : Result Sizes Refusal) → Unfolds v s t₀ e₀ b₀ t₁ e₁ b₁ r
      → Unfolds v (cleared s) t₀ e₀ b₀ t₂ e₂ b₂ q → (sumless q ≡ sumless r) × (t₂ ≡ t₁) × (e₂ ≡ e₁) × (b₂ ≡ b₁)
  unfolding checked_of unfolded roomy
  cleared_unfolds t₀ e₀ b₀ t₁ e₁ b₁ t₂ e₂ b₂ r q a b =
      let m = rooms t₀ e₀ b₀ in
      let table : Answer Sheet → Answer Table = λ x. and_then x (λ t. in_rooms m (flatten t.records)) in
      let told : Answer Sheet → (Result Sizes Refusal) = λ x. sumless (checked_of (and_then x (λ t. and_then (in_rooms m (flatten t.records)) (λ _. given t)))) in
      let same : unfolded v (cleared s) m ≡ unfolded v s m = ap table alike ∙ blind table (λ t. refl) (reading v s) in (
        ap sumless b.0 ∙ ap told alike ∙ blind told (λ t. told_alike (in_rooms m (flatten t.records)) t) (reading v s) ∙ sym (ap sumless a.0),
        b.1.0 ∙ ap (λ x. lent the_numbers x t₀) same ∙ sym a.1.0,
        b.1.1.0 ∙ ap (λ x. lent the_elements x e₀) same ∙ sym a.1.1.0,
        b.1.1.1 ∙ ap (λ x. lent the_bytes x b₀) same ∙ sym a.1.1.1,
      )

  -- `head_of` gives a caller the same head, and says that all four text fields are clean, or gives the same refusal;
  pub cleared_heads : (r q : Result HeadAt Refusal) → Heads v s r → Heads v (cleared s) q → SameHead s r (cleared s) q
  unfolding headed_of
  cleared_heads r q a b = by_reading (reading v s) refl
    where
      by_reading : (x : Answer Sheet) → reading v s ≡ x → SameHead s r (cleared s) q
      by_reading (given t) e =
          let h = t.head in
          let clean : reading v (cleared s) ≡ given (clean_of t) = alike ∙ ap (λ x. and_then x (λ t. given (clean_of t))) e in
          let mine : head_by s (head_at h t.tails) ≡ h = head-given s h t.tails (head-is v s t e) in
          let its : head_by (cleared s) (head_at h (clean_tails h)) ≡ h = head-given (cleared s) h (clean_tails h) (head-is v (cleared s) (clean_of t) clean) in
          subst (λ k. SameHead s k (cleared s) q) (sym (a ∙ ap headed_of e)) (subst (λ k. SameHead s (Ok (head_at h t.tails)) (cleared s) k)
          (sym (b ∙ ap headed_of clean)) (its ∙ sym mine, says_clean h))
      by_reading (refused n p w) e =
          let same : reading v (cleared s) ≡ refused n p w = alike ∙ ap (λ x. and_then x (λ t. given (clean_of t))) e in
          subst (λ k. SameHead s k (cleared s) q) (sym (a ∙ ap headed_of e)) (subst (λ k. SameHead s (Err (refusal n p w)) (cleared s) k)
          (sym (b ∙ ap headed_of same)) refl)

  -- unit, corners and records are the same.
  pub cleared-unit : (r q : Result SheetUnit Refusal) → Units v s r → Units v (cleared s) q → q ≡ r
  unfolding unit_in
  cleared-unit r q a b = b ∙ ap unit_in alike ∙ blind unit_in (λ t. refl) (reading v s) ∙ sym a

  pub cleared-corners : (r q : Result Corners Refusal) → Cornered v s r → Cornered v (cleared s) q → q ≡ r
  unfolding corners_in
  cleared-corners r q a b = b ∙ ap corners_in alike ∙ blind corners_in (λ t. refl) (reading v s) ∙ sym a

  pub cleared_record : (number : ℕ) (r q : Result RecordAt Refusal) → Finds v s number r → Finds v (cleared s) number q → q ≡ r
  unfolding asked
  cleared_record number r q a b =
      let found : Answer Sheet → (Result RecordAt Refusal) = λ x. found_of (and_then x (λ t. record_of start t.records number)) in
      b ∙ ap found alike ∙ blind found (λ t. refl) (reading v s) ∙ sym a

  -- two calls that give the same, into slices that held the same
  given_alike : {w x : Answer (List ℕ)} → x ≡ w → (o out new : List ℕ) (r q : Result ℕ Refusal) → Gives w o out r → Gives x o new q → (q ≡ r) × (new ≡ out)
  given_alike e o out new r q a b = (
    b.0 ∙ ap (λ k. written_of (roomed (length o) k)) e ∙ sym a.0,
    b.1 ∙ ap (λ k. lent the_given (roomed (length o) k) o) e ∙ sym a.1,
  )

  -- The index that `build` makes, and what `select` picks from the sheet, are the same, and so are the slices.
  pub cleared_index : (o out new : List ℕ) (r q : Result ℕ Refusal) → Gives (index_of v s) o out r → Gives (index_of v (cleared s)) o new q → (q ≡ r) × (new ≡ out)
  unfolding index_by
  cleared_index =
      let index : Answer Sheet → Answer (List ℕ) = λ x. and_then x (λ t. given (encode_index New (entries_of start t.records))) in
      given_alike (ap index alike ∙ blind index (λ t. refl) (reading v s))

  pub cleared_picks : (code : ℕ) (o out new : List ℕ) (r q : Result ℕ Refusal) → Gives (picked v s code) o out r → Gives (picked v (cleared s) code) o new q
      → (q ≡ r) × (new ≡ out)
  unfolding picked
  cleared_picks code =
      let picks : Answer Sheet → Answer (List ℕ) = λ x. and_then x (λ t. given (pick_records code 0 start t.records)) in
      given_alike (ap picks alike ∙ blind picks (λ t. refl) (reading v s))

-- Hopping finds the same, without a setting.
module _ (y : ℕ) (s : List ℕ) (bs : Bytes s) (z : Sizes) (c : Checks y s (Ok z)) where
  sheet : (u : Sheet) × (reading y s ≡ given u) × (z ≡ sizes_of u)
  sheet = by_accepted (reading y s) z c

  abbrev u : Sheet
  u = sheet.0

  its : reading y (cleared s) ≡ given (clean_of u)
  its = (cleared-reads y s bs u sheet.1 y).0 sheet.1

  plain : Bytes (cleared s)
  plain = cleared-bytes y s bs u sheet.1

  pub cleared-first : (code : ℕ) (r q : Result Hop Refusal) → FirstWith code s r → FirstWith code (cleared s) q → q ≡ r
  cleared-first code r q a b = b ∙ ap hopped_of (hop-reads code y (cleared s) plain (clean_of u) its ∙ sym (hop-reads code y s bs u sheet.1)) ∙ sym a

  pub cleared-frame : (r q : Result Hop Refusal) → FrameOf s r → FrameOf (cleared s) q → q ≡ r
  cleared-frame r q a b = b ∙ ap hopped_of (frame-reads y (cleared s) plain (clean_of u) its ∙ sym (frame-reads y s bs u sheet.1)) ∙ sym a
