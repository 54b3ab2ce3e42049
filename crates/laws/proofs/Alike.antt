-- A sheet that is read and the cleared sheet are walked alike: they come upon the same features at the same places, so that at every setting the
-- answers are the same but for the tails.
use mathlib.Core.Bool.{Bool, true, false, cond}
use mathlib.Core.List.{List, [], ◌∷◌}
use mathlib.Core.Path.{◌≡◌, refl, ap, sym, ◌∙◌}
use Prim.Native.Nat.{ℕ}
use lib.ListN.{drop}
use Rattle.layout.specs.Answers.Calls.{and_then, reading}
use Rattle.layout.specs.Bytes.{Bytes, number_in, bytes_in}
use Rattle.layout.specs.Fields.Descriptor
use Rattle.layout.specs.Fields.Passport
use Rattle.layout.specs.Layout.Cleared.{cleared}
use Rattle.layout.specs.Reading.Records.{record_walk}
use Rattle.layout.specs.Reading.Sheets.{start, size_checks, passport_checks, descriptor_checks, reserved_checks, head_in, tails_in, sheet_walk}
use Rattle.layout.specs.Refusals.{LEFT_OVER, ASK}
use Rattle.layout.specs.Shared.Carried.{rest_checks, carried_checks}
use Rattle.layout.specs.Shared.Tails.{clean_tails, clean_of}
use Rattle.layout.specs.Sheet.{Record, Sheet}
use Rattle.layout.specs.Walk.{Walk, ends, given, refused, answer, up_to, ◌>>=◌, ◌>>◌, Check, must, dated, checks, Holds, times, whole}
use Rattle.layout.specs.Years.{is_setting}
use Rattle.laws.proofs.Again.{cleared-reads, cleared-bytes}
use Rattle.laws.proofs.Base.Walks.{cond_back, bind_assoc, answer_bind}
use Rattle.laws.proofs.Reading.Sheets.{sheet_in, sheet_went, sheet-ends, records_stand}

-- checks that hold and come upon no feature are walked past
abbrev Undated : List Check → Type 0
Undated [] = Unit {0}
Undated (must test number place ∷ cs) = Undated cs
Undated (dated test year place ∷ cs) = ⊥

past : {A : Type 0} (p : ℕ) (cs : List Check) (w : Walk A) → Undated cs → Holds cs → (checks p cs >> w) ≡ w
past p [] w u h = refl
past p (must test number place ∷ cs) w u h = rw h.0 (past p cs w u h.1)
past p (dated test year place ∷ cs) w u h = absurd u

-- what is left of the walk of a sheet that is read: the carried bytes of passport and descriptor, and n records from xs
abbrev body : {A : Type 0} → List ℕ → List ℕ → ℕ → List ℕ → (List Record → A) → Walk A
body rest carried n xs f =
    checks 0 (rest_checks rest)
    >> (checks 0 (carried_checks carried) >> (whole LEFT_OVER (times n record_walk) start xs >>= λ l. ends (f l)))

walk_body : (al : ℕ → Bool) (s : List ℕ) (t : Sheet) → answer al (sheet_walk s) ≡ given t
    → sheet_walk s ≡ body (bytes_in Passport.rest s) (bytes_in Descriptor.carried s) (number_in Descriptor.count s) (drop start s) (sheet_in s)
unfolding sheet_walk size_checks passport_checks descriptor_checks reserved_checks
walk_body al s t e =
    let w = sheet_went al s t e in
    let rest = checks 0 (rest_checks (bytes_in Passport.rest s)) in
    let carried = checks 0 (carried_checks (bytes_in Descriptor.carried s)) in
    past 0 (size_checks s) _ tt w.size
    ∙ past 0 (passport_checks s) _ tt w.passport
    ∙ ap (λ v. rest >> v) (past 0 (descriptor_checks s) _ tt w.descriptor ∙ ap (λ v. carried >> v) (past 0 (reserved_checks s) _ tt w.reserved))

-- other values at its ends
body-ends : {A B : Type 0} (rest carried : List ℕ) (n : ℕ) (xs : List ℕ) (f : List Record → A) (g : A → B)
    → body rest carried n xs (λ l. g (f l)) ≡ (body rest carried n xs f >>= λ a. ends (g a))
body-ends rest carried n xs f g =
    let r = checks 0 (rest_checks rest) in
    let c = checks 0 (carried_checks carried) in
    let w = whole LEFT_OVER (times n record_walk) start xs in
    sym (bind_assoc r (λ _. c >> (w >>= λ l. ends (f l))) (λ a. ends (g a))
    ∙ ap (λ v. r >> v) (bind_assoc c (λ _. w >>= λ l. ends (f l)) (λ a. ends (g a))
    ∙ ap (λ v. c >> v) (bind_assoc w (λ l. ends (f l)) (λ a. ends (g a)))))

module _ (year : ℕ) (s : List ℕ) (bs : Bytes s) (u : Sheet) (e : reading year s ≡ given u) where
  clean : reading year (cleared s) ≡ given (clean_of u)
  clean = (cleared-reads year s bs u e year).0 e

  -- both are read, at some setting
  walked : (x : List ℕ) (t : Sheet) → reading year x ≡ given t → answer (up_to year) (sheet_walk x) ≡ given t
  unfolding reading
  walked x t g = (cond_back (is_setting year) _ _ _ _ t g).1

  -- what stands in both
  head : head_in (cleared s) ≡ head_in s
  head = sym (sheet-ends (up_to year) (cleared s) (clean_of u) (walked (cleared s) (clean_of u) clean)).0 ∙ (sheet-ends (up_to year) s u (walked s u e)).0

  tails : tails_in (cleared s) ≡ clean_tails (head_in s)
  tails =
      sym (sheet-ends (up_to year) (cleared s) (clean_of u) (walked (cleared s) (clean_of u) clean)).2
      ∙ ap clean_tails (sheet-ends (up_to year) s u (walked s u e)).0

  alike : sheet_walk (cleared s) ≡ (sheet_walk s >>= λ t. ends (clean_of t))
  alike =
      let x = cleared s in
      let a = records_stand (up_to year) s bs u (walked s u e) in
      let b = records_stand (up_to year) x (cleared-bytes year s bs u e) (clean_of u) (walked x (clean_of u) clean) in
      let rest = ap (λ h. h.rest) head in
      let carried = ap (λ h. h.carried) head in
      let count : number_in Descriptor.count x ≡ number_in Descriptor.count s = sym b.0 ∙ a.0 in
      let records : drop start x ≡ drop start s = sym b.2 ∙ a.2 in
      let made : sheet_in x ≡ (λ l. clean_of (sheet_in s l)) = λ j l. record { head = head j; tails = tails j; records = l } in
      walk_body (up_to year) x (clean_of u) (walked x (clean_of u) clean)
      ∙ (λ j. body (rest j) (carried j) (count j) (records j) (made j))
      ∙ body-ends (bytes_in Passport.rest s) (bytes_in Descriptor.carried s) (number_in Descriptor.count s) (drop start s) (sheet_in s) clean_of
      ∙ ap (λ w. w >>= λ t. ends (clean_of t)) (sym (walk_body (up_to year) s u (walked s u e)))

-- At every setting, and at every other year, the cleared sheet is answered as the sheet is, a refusal too, but that its tails are clean.
pub cleared_alike : (year : ℕ) (s : List ℕ) → Bytes s → (u : Sheet) → reading year s ≡ given u
    → (z : ℕ) → reading z (cleared s) ≡ and_then (reading z s) (λ t. given (clean_of t))
unfolding reading
cleared_alike year s bs u e z =
    go (is_setting z) (ap (λ w. answer (up_to z) w) (alike year s bs u e) ∙ answer_bind (up_to z) (sheet_walk s) (λ t. ends (clean_of t)))
  where
    go : (b : Bool) → answer (up_to z) (sheet_walk (cleared s)) ≡ and_then (answer (up_to z) (sheet_walk s)) (λ t. given (clean_of t))
        → cond b (answer (up_to z) (sheet_walk (cleared s))) (refused ASK 0 0)
        ≡ and_then (cond b (answer (up_to z) (sheet_walk s)) (refused ASK 0 0)) (λ t. given (clean_of t))
    go true h = h
    go false h = refl
