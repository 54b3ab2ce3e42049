-- For the functions of src/round.rt: what each match on an answer comes to. Where the first call succeeds the others cannot refuse, so the arms
-- that answer false contradict the contracts of the calls before them, and the one that is left is a theorem of Again.
use mathlib.Core.Bool.{true}
use mathlib.Core.List.{List, ◌++◌, append-nil}
use mathlib.Core.Path.{◌≡◌, sym, ap, ◌∙◌, subst}
use Prim.Native.Nat.{ℕ, ◌+◌, ◌≤◌}
use lib.ListN.{length, take, drop, replicate, length-drop, length-replicate}
use lib.Seq.{sets, sets-eq, drop-length, length-take-le}
use native.Mathlib.Omega.{arith}
use Rattle.layout.specs.Answers.Calls.{roomy, written, over}
use Rattle.layout.specs.Answers.Enums.{sizes_of, checked_of, head_at, written_of}
use Rattle.layout.specs.Answers.Lent.{head_of, rooms}
use Rattle.layout.specs.Bytes.{Bytes, Field, after, bytes_in}
use Rattle.layout.specs.Fields.Descriptor
use Rattle.layout.specs.Fields.Passport
use Rattle.layout.specs.Layout.Cleared.{cleared}
use Rattle.layout.specs.Reading.Sheets.{head_in, tails_in}
use Rattle.layout.specs.Shared.Tails.{AllClean}
use Rattle.layout.specs.Sheet.{Head, Sheet, Table}
use Rattle.layout.specs.Walk.{given}
use Rattle.layout.specs.Writing.Tables.{table}
use Rattle.layout.specs.Years.{is_setting}
use Rattle.layout.specs.declared.HeadAt.{HeadAt}
use Rattle.layout.specs.declared.Refusal.{Refusal}
use Rattle.layout.specs.declared.Sizes.{Sizes}
use Rattle.laws.proofs.Again.{clean-same}
use Rattle.laws.proofs.Writing.Sheets.{Typed}
use Rattle.promises.proofs.Again.{length-within, read_again, unfold_again, table-within, heads_too, written_again}
use Rattle.promises.proofs.Contracts.{Heads, Unfolds, Writes}
use Rattle.promises.proofs.Heads.{head-within}
use Rattle.promises.proofs.Later.{unfolds_at}
use Rattle.promises.proofs.Rooms.{Fit, roomy_back}
use Rattle.promises.specs.Hands.{text_by, head_by, HeadWithin, table_by, TableWithin}
use Rattle.std.specs.Prelude.{Result, Ok, Err}

-- a refusal is no success
unlike_written : (q : Refusal) (n : ℕ) → ¬ (Err q ≡ Ok n)
unlike_written q n e = let i : ◌≡◌ {A = ℕ} 0 1 = cc in omega arith

unlike_accepted : (q : Refusal) (z : Sizes) → ¬ (Err q ≡ Ok z)
unlike_accepted q z e = let i : ◌≡◌ {A = ℕ} 0 1 = cc in omega arith

unlike_head : (q : Refusal) (a : HeadAt) → ¬ (Err q ≡ Ok a)
unlike_head q a e = let i : ◌≡◌ {A = ℕ} 0 1 = cc in omega arith

-- `rest_of` and `carried_of`: a field of a sheet, copied into an array of its width that held zeros, is all of the array
pub field_copied : (f : Field) (s : List ℕ) → after f ≤ length s → sets (replicate f.width 0) 0 (bytes_in f s) ≡ bytes_in f s
field_copied f s within =
    let v = bytes_in f s in
    let l : List ℕ = replicate f.width 0 in
    let n : length v ≡ f.width = length-take-le f.width (drop f.place s) (omega (arith, length-drop f.place s, within)) in
    let all : 0 + length v ≡ length l = omega (arith, n, length-replicate {A = ℕ} f.width 0) in
    sets-eq v l 0 (omega (arith, all)) ∙ ap (λ (k : ℕ). v ++ drop k l) all ∙ ap (λ x. v ++ x) (drop-length l) ∙ append-nil v

-- `write_read`: each part of the head and of the table is what a caller takes
pub passed_on : (y : ℕ) (s : List ℕ) (a : HeadAt) (date designation title rest designation2 carried : List ℕ)
    → date ≡ text_by Passport.date a.date.length s
    → designation ≡ text_by Passport.designation a.designation.length s
    → title ≡ text_by Passport.title a.title.length s
    → rest ≡ bytes_in Passport.rest s
    → designation2 ≡ text_by Descriptor.designation a.designation2.length s
    → carried ≡ bytes_in Descriptor.carried s
    → (z : Sizes) (t e b numbers elements bytes : List ℕ)
    → numbers ≡ take z.numbers t → elements ≡ take z.elements e → bytes ≡ take z.bytes b
    → (o out : List ℕ) (r : Result ℕ Refusal) → Writes y (head_of date designation a.scale title rest designation2 carried) (table numbers elements bytes) o out r
    → Writes y (head_by s a) (table_by z t e b) o out r
passed_on y s a date designation title rest designation2 carried k₀ k₁ k₂ k₃ k₄ k₅ z t e b numbers elements bytes l₀ l₁ l₂ o out r w =
    let head : head_of date designation a.scale title rest designation2 carried ≡ head_by s a =
    λ i. head_of (k₀ i) (k₁ i) a.scale (k₂ i) (k₃ i) (k₄ i) (k₅ i) in
    let taken : table numbers elements bytes ≡ table_by z t e b = λ i. table (l₀ i) (l₁ i) (l₂ i) in
    subst (λ x. Writes y x (table_by z t e b) o out r) head
    (subst (λ x. Writes y (head_of date designation a.scale title rest designation2 carried) x o out r) taken w)

-- `read_back`: a call of `write`, and one of `unfold` with what it wrote, at that year or a later one
module _ (y : ℕ) (h : Head) (t : Table) (o out : List ℕ) (v : Result ℕ Refusal) (w : Writes y h t o out v) where
  pub never_unwritten : (s : List ℕ) → written y h t (length o) ≡ given s → (q : Refusal) → ¬ (v ≡ Err q)
  unfolding written_of
  never_unwritten s e q g = unlike_written q (length s) (sym g ∙ w.0 ∙ ap written_of e)

  module _ (n : ℕ) (is : v ≡ Ok n) where
    wrote : Writes y h t o out (Ok n)
    wrote = subst (λ x. Writes y h t o out x) is w

    -- as `part` asks it, from place 0 on
    pub sheet-within : 0 + n ≤ length out
    sheet-within = omega (arith, length-within y h t o out n wrote)

    module _ (typed : Typed h) (bs : Bytes t.bytes) (p : List ℕ) (part : p ≡ take n out) (z : ℕ) (ok : is_setting z ≡ true) (after : y ≤ z)
        (t₀ e₀ b₀ t₁ e₁ b₁ : List ℕ) (r : Result Sizes Refusal) (c : Unfolds z p t₀ e₀ b₀ t₁ e₁ b₁ r) (f : Fit (rooms t₀ e₀ b₀) t) where
      read : Unfolds y (take n out) t₀ e₀ b₀ t₁ e₁ b₁ r
      read = unfolds_at y h t o out n wrote typed bs z ok after t₀ e₀ b₀ t₁ e₁ b₁ r (subst (λ x. Unfolds z x t₀ e₀ b₀ t₁ e₁ b₁ r) part c)

      pub back_filled : (t₁ ≡ over t.numbers t₀) × (e₁ ≡ over t.elements e₀) × (b₁ ≡ over t.bytes b₀)
      back_filled = read_again y h t o out n wrote typed bs t₀ e₀ b₀ t₁ e₁ b₁ r read f

      pub never_refused : (q : Refusal) → ¬ (r ≡ Err q)
      never_refused q g =
          let a = unfold_again y h t o out n wrote typed bs t₀ e₀ b₀ t₁ e₁ b₁ r read f in
          unlike_accepted q (sizes_of a.0) (sym g ∙ a.3)

-- `write_back`: a call of `unfold`, one of `head_of`, and one of `write` with what they gave
module _ (y : ℕ) (s t₀ e₀ b₀ t₁ e₁ b₁ : List ℕ) (v : Result Sizes Refusal) (f : Unfolds y s t₀ e₀ b₀ t₁ e₁ b₁ v) where
  pub never_folded : (u : Sheet) → roomy y s (rooms t₀ e₀ b₀) ≡ given u → (q : Refusal) → ¬ (v ≡ Err q)
  unfolding checked_of
  never_folded u e q g = unlike_accepted q (sizes_of u) (sym g ∙ f.0 ∙ ap checked_of e)

  module _ (z : Sizes) (is : v ≡ Ok z) where
    filled : Unfolds y s t₀ e₀ b₀ t₁ e₁ b₁ (Ok z)
    filled = subst (λ x. Unfolds y s t₀ e₀ b₀ t₁ e₁ b₁ x) is f

    module _ (k : Result HeadAt Refusal) (c : Heads y s k) where
      pub never_headless : (q : Refusal) → ¬ (k ≡ Err q)
      never_headless q g = unlike_head q (head_at (head_in s) (tails_in s)) (sym g ∙ heads_too y s t₀ e₀ b₀ t₁ e₁ b₁ z filled k c)

      module _ (a : HeadAt) (head : k ≡ Ok a) where
        -- what is passed on to the writer stands in the sheet and in the slices
        pub passed-within : HeadWithin s a × TableWithin z t₁ e₁ b₁
        passed-within = (head-within y s a (sym head ∙ c), table-within y s t₀ e₀ b₀ t₁ e₁ b₁ z filled)

        module _ (bs : Bytes s) (o out : List ℕ) (r : Result ℕ Refusal) (room : length s ≤ length o) (d : Writes y (head_by s a) (table_by z t₁ e₁ b₁) o out r) where
          back : (r ≡ Ok (length s)) × (out ≡ over (cleared s) o)
          back = written_again y s t₀ e₀ b₀ t₁ e₁ b₁ z filled bs a (sym head ∙ c) o out r room d

          pub back_written : (u : Sheet) → roomy y s (rooms t₀ e₀ b₀) ≡ given u → (out ≡ over (cleared s) o) × (AllClean u.tails → out ≡ over s o)
          back_written u e = (
            back.1,
            λ clean. back.1 ∙ ap (λ x. over x o) (clean-same y s bs u (roomy_back y s (rooms t₀ e₀ b₀) u e).0 clean),
          )

          pub never_short : (q : Refusal) → ¬ (r ≡ Err q)
          never_short q g = unlike_written q (length s) (sym g ∙ back.0)
