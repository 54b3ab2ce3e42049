-- The writer takes exactly the heads and tables of fine sheets, and a setting decides by the years that the sheet uses.
use mathlib.Core.Bool.{Bool, true, false, not}
use mathlib.Core.List.{List, [], ◌∷◌}
use mathlib.Core.Logic.{◌↔◌}
use mathlib.Core.Path.{◌≡◌, refl, sym, ◌∙◌, subst}
use Prim.Native.Nat.{ℕ, ◌≤◌}
use borrow.Author.Tests.{leb-true, le-leb, ltb-true, lt-ltb, not-true}
use lib.Dec.{eqb, ltb}
use lib.ListN.{length}
use native.Mathlib.Omega.{arith}
use Rattle.layout.specs.Bytes.{All, Bytes, Field}
use Rattle.layout.specs.Fields.{limit}
use Rattle.layout.specs.Fields.Descriptor
use Rattle.layout.specs.Fields.Passport
use Rattle.layout.specs.Layout.Encode.{encode}
use Rattle.layout.specs.Layout.Fine.{Fits, Fills, FineHead, Fine}
use Rattle.layout.specs.Layout.Uses.{years}
use Rattle.layout.specs.Shared.Carried.{rest_checks, carried_checks}
use Rattle.layout.specs.Shared.Tails.{AllClean, clean_sheet, clean_of}
use Rattle.layout.specs.Shared.Texts.{no_zero, is_text, text_fits, FineText}
use Rattle.layout.specs.Sheet.{Record, Head, Sheet, Table}
use Rattle.layout.specs.Walk.{ends, given, answer}
use Rattle.layout.specs.Writing.Rows.{rows_walk}
use Rattle.layout.specs.Writing.Sheets.{title_rules, head_walk, limit_rules, table_walk}
use Rattle.layout.specs.Writing.Tables.{flatten}
use Rattle.laws.proofs.Base.Chains.{Hold, four_case, four_on}
use Rattle.laws.proofs.Base.Lists.{◌&◌, both_true}
use Rattle.laws.proofs.Base.Walks.{given_inj, bind_case, bind_on, checks_case, checks_on, Allowed}
use Rattle.laws.proofs.Encoding.Uses.{sheet_uses}
use Rattle.laws.proofs.Encoding.Lengths.{length-records, count-records}
use Rattle.laws.proofs.Encoding.Tails.{clean-tails, all-clean, clean_is}
use Rattle.laws.proofs.Writing.Limits.{all-fine, all_near}
use Rattle.laws.proofs.Writing.Rows.{rows_back, rows_on}

-- what the types of the writer's inputs say
pub record Typed (h : Head) : Type 0 where
  pub date : Bytes h.date
  pub designation : Bytes h.designation
  pub scale : Fits Passport.scale h.scale
  pub title : Bytes h.title
  pub rest : Fills Passport.rest h.rest
  pub designation2 : Bytes h.designation2
  pub carried : Fills Descriptor.carried h.carried

-- the head of a fine sheet is so
pub fine_typed : (h : Head) → FineHead h → Typed h
fine_typed h f = record {
  date = f.date.is_bytes;
  designation = f.designation.is_bytes;
  scale = f.scale;
  title = f.title.is_bytes;
  rest = f.rest;
  designation2 = f.designation2.is_bytes;
  carried = f.carried;
}

-- the writer's check of a text asks that a field can hold it
no_zero_back : (t : List ℕ) → no_zero t ≡ true → All (λ x. eqb x 0 ≡ false) t
no_zero_back [] e = tt
no_zero_back (x ∷ t) e = let h = both_true (not (eqb x 0)) (no_zero t) e in (not-true (eqb x 0) h.0, no_zero_back t h.1)

no_zero_on : (t : List ℕ) → All (λ x. eqb x 0 ≡ false) t → no_zero t ≡ true
no_zero_on [] f = refl
no_zero_on (x ∷ t) f = rw f.0 (no_zero_on t f.1)

text_back : (f : Field) (t : List ℕ) → Bytes t → is_text f t ≡ true → FineText f t
text_back f t bs e =
    let h = both_true (ltb (length t) f.width) (no_zero t) e in
    record { short = ltb-true _ _ h.0; nonzero = no_zero_back t h.1; is_bytes = bs }

pub text_on : (f : Field) (t : List ℕ) → FineText f t → is_text f t ≡ true
text_on f t h = rw (lt-ltb (length t) f.width h.short) (no_zero_on t h.nonzero)

-- what the checks on a head ask
abbrev pub HeadHolds : Head → Type 0
HeadHolds h = Hold (title_rules h) (rest_checks h.rest) (text_fits Descriptor.designation h.designation2 ∷ []) (carried_checks h.carried)

pub head_back : (h : Head) → Typed h → HeadHolds h → FineHead h
unfolding title_rules
head_back h ty c = record {
  date = text_back Passport.date h.date ty.date c.0.0;
  designation = text_back Passport.designation h.designation ty.designation c.0.1.0;
  scale = ty.scale;
  title = text_back Passport.title h.title ty.title c.0.1.1.0;
  rest = ty.rest;
  rest_holds = c.1;
  designation2 = text_back Descriptor.designation h.designation2 ty.designation2 c.2.0;
  carried = ty.carried;
  carried_holds = c.3;
}

head_on : (h : Head) → FineHead h → HeadHolds h
unfolding title_rules
head_on h f = (
  text_on Passport.date h.date f.date
      & text_on Passport.designation h.designation f.designation
      & text_on Passport.title h.title f.title
      & tt,
  f.rest_holds,
  text_on Descriptor.designation h.designation2 f.designation2 & tt,
  f.carried_holds,
)

-- The writer at any allowed years

pub table-sound : (al : ℕ → Bool) (h : Head) (t : Table) → Typed h → Bytes t.bytes → (u : Sheet) → answer al (table_walk h t) ≡ given u
    → Fine u × Allowed al (years u) × (u.head ≡ h) × (flatten u.records ≡ t) × AllClean u.tails
unfolding table_walk head_walk title_rules limit_rules
table-sound al h t ty bs u e =
    let second = text_fits Descriptor.designation h.designation2 ∷ [] in
    four_case al 0 (title_rules h) (rest_checks h.rest) second (carried_checks h.carried) _ u e λ c y e1.
    bind_case al (rows_walk t) _ u e1 λ l el e2.
    let v : Sheet = clean_sheet h l in
    let fine : FineHead h = head_back h ty c in
    checks_case al 0 (limit_rules v) (ends v) u e2 λ d z g.
    let r = rows_back al t bs l el in
    let short : length (encode v) ≤ limit = leb-true _ _ d.0 in
    let inner = length-records v in
    rw (← (given_inj g)) (
      record {
        short = short;
        head = fine;
        tails = clean-tails h fine;
        count = omega (arith, count-records l);
        records = all-fine l (omega arith) r.0;
      },
      (sheet_uses al v).1 (y.1, y.3, r.1),
      refl,
      r.2,
      all-clean h,
    )

table_on : (al : ℕ → Bool) (h : Head) (l : List Record) → Fine (clean_sheet h l) → Allowed al (years (clean_sheet h l))
    → answer al (table_walk h (flatten l)) ≡ given (clean_sheet h l)
unfolding table_walk head_walk title_rules limit_rules
table_on al h l f y =
    let u : Sheet = clean_sheet h l in
    let z = (sheet_uses al u).0 y in
    four_on al 0 (title_rules h) (rest_checks h.rest) (text_fits Descriptor.designation h.designation2 ∷ []) (carried_checks h.carried) _
    (head_on h f.head) (tt, z.0, tt, z.1)
    ∙ bind_on al (rows_walk (flatten u.records)) _ u.records (rows_on al u.records (all_near u.records f.records) z.2)
    ∙ checks_on al 0 (limit_rules u) (ends u) (le-leb _ _ f.short & tt) tt

pub table-complete : (al : ℕ → Bool) (u : Sheet) → Fine u → AllClean u.tails → Allowed al (years u)
    → answer al (table_walk u.head (flatten u.records)) ≡ given u
table-complete al u f c y =
    let e : u ≡ clean_of u = clean_is u f c in
    subst (λ v. answer al (table_walk u.head (flatten u.records)) ≡ given v) (sym e)
    (table_on al u.head u.records (subst (λ v. Fine v) e f) (subst (λ v. Allowed al (years v)) e y))

-- exactly the fine and clean sheets with that head and that table, whose years are allowed
pub table_at : (al : ℕ → Bool) (h : Head) (t : Table) → Typed h → Bytes t.bytes → (u : Sheet)
    → (answer al (table_walk h t) ≡ given u) ↔ (Fine u × Allowed al (years u) × (u.head ≡ h) × (flatten u.records ≡ t) × AllClean u.tails)
table_at al h t ty bs u = (
  λ e. table-sound al h t ty bs u e,
  λ f. subst (λ k. answer al (table_walk k t) ≡ given u) f.2 (subst (λ x. answer al (table_walk u.head x) ≡ given u) f.3
      (table-complete al u f.0 f.4 f.1)),
)
