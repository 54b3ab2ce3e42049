-- Pass 1 of the writer: what it answers in each way it can go is what the writer's walk over head and table answers.
use mathlib.Core.Bool.{Bool, true, false, cond}
use mathlib.Core.List.{List, [], ◌∷◌, ◌++◌}
use mathlib.Core.Path.{◌≡◌, refl, sym, ap, ◌∙◌}
use Prim.Native.Nat.{ℕ, ◌+◌, ◌-◌, ◌≤◌, ◌<◌, ◌^◌}
use borrow.Author.Tests.{le-leb, lt-leb, leb-false}
use lib.Dec.{leb}
use lib.ListN.{length}
use native.Mathlib.Omega.{arith}
use Rattle.fields.proofs.Laws.Chain.{refused_by, step_holds, step_on, step_stop}
use Rattle.fields.specs.Checks.{checked}
use Rattle.layout.specs.Answers.Lent.{head_of}
use Rattle.writing_head.specs.Heads.{head_rules}
use Rattle.layout.specs.Answers.Enums.{refusal}
use Rattle.layout.specs.Bytes.{Bytes}
use Rattle.layout.specs.Fields.Descriptor
use Rattle.layout.specs.Fields.{limit}
use Rattle.layout.specs.Reading.Sheets.{start}
use Rattle.layout.specs.Layout.Encode.{encode}
use Rattle.layout.specs.Layout.Fine.{FineHead}
use Rattle.layout.specs.Layout.Sizes.{sum_by, record_bytes}
use Rattle.layout.specs.Shared.Carried.{rest_checks, carried_checks}
use Rattle.layout.specs.Shared.Tails.{clean_sheet}
use Rattle.layout.specs.Shared.Texts.{text_fits}
use Rattle.layout.specs.Sheet.{Head, Record, Sheet, Table}
use Rattle.layout.specs.Walk.{Walk, Answer, given, refused, answer, up_to, Check, must, dated, Holds, checks, ◌>>=◌, ◌>>◌, ends}
use Rattle.layout.specs.Writing.Rows.{rows_walk}
use Rattle.layout.specs.Writing.Sheets.{title_rules, head_walk, limit_rules, table_walk}
use Rattle.layout.specs.declared.Refusal.{Refusal}
use Rattle.layout.specs.Refusals.{TOO_LONG}
use Rattle.laws.proofs.Base.Chains.{four_then}
use Rattle.laws.proofs.Base.Walks.{bind_on, bind_refused, checks_append}
use Rattle.laws.proofs.Writing.Rows.{rows_back}
use Rattle.laws.proofs.Writing.Sheets.{Typed, head_back}
use Rattle.laws.proofs.Encoding.Tails.{clean-tails}
use Rattle.laws.proofs.Writing.Sizes.{encode-length}
use Rattle.writing_check.proofs.Laws.Moves.{capped_back}
use Rattle.writing_check.specs.Places.{capped}
use Rattle.writing_check.specs.Tables.{rows_of}
use Rattle.writing_check.specs.declared.tables.Totals.{Totals}
use Rattle.writing.specs.Ready.{totals_of, measured_of}
use Rattle.std.specs.Prelude.{Result, Ok, Err}
use Rattle.laws.proofs.Base.Numbers.{all-bytes}
use Rattle.writing_check.specs.Places.{lists}
use Rattle.writing_check.specs.declared.record_table.RecordTable.{RecordTable}
use Rattle.writing_head.specs.Heads.{head_in}
use Rattle.writing_head.specs.declared.texts.HeadTexts.{HeadTexts}

holds-both : (cs ds : List Check) → Holds (cs ++ ds) → Holds cs × Holds ds
holds-both [] ds e = (tt, e)
holds-both (must b n k ∷ cs) ds e = let r = holds-both cs ds e.1 in ((e.0, r.0), r.1)
holds-both (dated b z k ∷ cs) ds e = holds-both cs ds e

-- what comes after the head
abbrev limited : Head → List Record → Walk Sheet
limited h l = checks 0 (limit_rules (clean_sheet h l)) >> ends (clean_sheet h l)

-- the checks on the head in one list
table_walk_lem : (h : Head) (t : Table) → table_walk h t ≡ (checks 0 (head_rules h) >> (rows_walk t >>= limited h))
unfolding table_walk head_walk
table_walk_lem h t =
    let A = title_rules h in
    let B = rest_checks h.rest in
    let C = text_fits Descriptor.designation h.designation2 ∷ [] in
    let D = carried_checks h.carried in
    let w = rows_walk t >>= limited h in
    four_then 0 A B C D w
    ∙ sym (checks_append 0 A (B ++ (C ++ D)) w
    ∙ ap (λ v. checks 0 A >> v) (checks_append 0 B (C ++ D) w
    ∙ ap (λ v. checks 0 B >> v) (checks_append 0 C D w)))

capped-low : (n : ℕ) → capped n ≤ n
capped-low n = go (leb n limit) refl
  where
    go : (b : Bool) → leb n limit ≡ b → cond b n (limit + 1) ≤ n
    go true e = omega arith
    go false e = omega (arith, leb-false n limit e)

rows_given : (v : Answer (List Record)) (z : Totals) → rows_of v ≡ Ok z
    → (l : List Record) × (v ≡ given l) × (z ≡ record { length = capped (sum_by record_bytes l); records = length l })
rows_given (given l) z e = (l, refl, cc)
rows_given (refused n p y) z e = let x : ◌≡◌ {A = ℕ} 0 1 = cc in absurd (omega arith)

rows_refused : (v : Answer (List Record)) (q : Refusal) → rows_of v ≡ Err q → v ≡ refused_by q
rows_refused (given l) q e = let x : ◌≡◌ {A = ℕ} 0 1 = cc in absurd (omega arith)
rows_refused (refused n p y) q e = let i : refusal n p y ≡ q = cc in rw (← i) refl

-- a head that the checks let through is fine
head-fine : (h : Head) → Typed h → Holds (head_rules h) → FineHead h
head-fine h typed e =
    let A = title_rules h in
    let B = rest_checks h.rest in
    let C = text_fits Descriptor.designation h.designation2 ∷ [] in
    let D = carried_checks h.carried in
    let a = holds-both A (B ++ (C ++ D)) e in
    let b = holds-both B (C ++ D) a.1 in
    let c = holds-both C D b.1 in
    head_back h typed (a.0, b.0, c.0, c.1)

module _ (y : ℕ) (h : Head) (t : Table) (r : Result (Unit {0}) Refusal) (n : r ≡ checked y 0 (head_rules h)) where
  abbrev all : Answer Sheet
  all = answer (up_to y) (table_walk h t)

  pub head-stops : (q : Refusal) → r ≡ Err q → Err q ≡ measured_of all
  head-stops q e =
      sym (ap measured_of (ap (answer (up_to y)) (table_walk_lem h t) ∙ step_stop y 0 (head_rules h) r n (rows_walk t >>= limited h) q e))

  module _ (fine : r ≡ Ok tt) (v : Result Totals Refusal) (rows : v ≡ rows_of (answer (up_to y) (rows_walk t))) where
    on : all ≡ answer (up_to y) (rows_walk t >>= limited h)
    on = ap (answer (up_to y)) (table_walk_lem h t) ∙ step_on y 0 (head_rules h) r n (rows_walk t >>= limited h) tt fine

    pub rows_stop : (q : Refusal) → v ≡ Err q → Err q ≡ measured_of all
    rows_stop q e =
        let w = rows_refused (answer (up_to y) (rows_walk t)) q (sym rows ∙ e) in
        sym (ap measured_of (on ∙ bind_refused (up_to y) (rows_walk t) (limited h) w))

    module _ (typed : Typed h) (bs : Bytes t.bytes) (z : Totals) (e : v ≡ Ok z) where
      -- the records, and how long their sheet is
      found : (l : List Record) × (all ≡ answer (up_to y) (limited h l)) × (z ≡ record { length = capped (sum_by record_bytes l); records = length l })
          × (length (encode (clean_sheet h l)) ≡ 452 + sum_by record_bytes l)
      found =
          let g = rows_given (answer (up_to y) (rows_walk t)) z (sym rows ∙ e) in
          let near = (rows_back (up_to y) t bs g.0 g.1).0 in
          let head = head-fine h typed (step_holds y 0 (head_rules h) r n tt fine) in
          (g.0, on ∙ bind_on (up_to y) (rows_walk t) (limited h) g.0 g.1, g.2, encode-length (clean_sheet h g.0) head (clean-tails h head) near)

      pub too_long : limit - start < z.length → Err (refusal TOO_LONG 0 0) ≡ measured_of all
      unfolding limit_rules
      too_long over =
          let l = found.0 in
          let u = clean_sheet h l in
          let z-is : z.length ≡ capped (sum_by record_bytes l) = ap (λ (x : Totals). x.length) found.2 in
          let long : limit < length (encode u) = omega (arith, over, z-is, capped-low (sum_by record_bytes l), found.3) in
          let stop : answer (up_to y) (limited h l) ≡ refused TOO_LONG 0 0 = rw (lt-leb (length (encode u)) limit long) refl in
          sym (ap measured_of (found.1 ∙ stop))

      pub fits : z.length ≤ limit - start → Ok z ≡ measured_of all
      unfolding limit_rules
      fits under =
          let l = found.0 in
          let u = clean_sheet h l in
          let z-is : z.length ≡ capped (sum_by record_bytes l) = ap (λ (x : Totals). x.length) found.2 in
          let same : capped (sum_by record_bytes l) ≡ sum_by record_bytes l = capped_back (sum_by record_bytes l) (omega (arith, under, z-is)) in
          let short : length (encode u) ≤ limit = omega (arith, under, z-is, same, found.3) in
          let goes : answer (up_to y) (limited h l) ≡ given u = rw (le-leb (length (encode u)) limit short) refl in
          let totals : z ≡ totals_of u = found.2 ∙ ap (λ (x : ℕ). record { length = x; records = length l }) same in
          ap Ok totals ∙ sym (ap measured_of (found.1 ∙ goes))

-- what the types of the writer's inputs say of a head
pub typed_head : (date designation : List ℕ) (scale : ℕ) (title rest designation2 carried : List ℕ) → Bytes date → Bytes designation → scale < 256 ^ 4
    → Bytes title → (length rest ≡ 304) × Bytes rest → Bytes designation2 → (length carried ≡ 4) × Bytes carried
    → Typed (head_of date designation scale title rest designation2 carried)
typed_head date designation scale title rest designation2 carried a b s c d e f =
    record { date = a; designation = b; scale = s; title = c; rest = d; designation2 = e; carried = f }

-- of the texts and the table that are given
pub typed_texts : (t : HeadTexts) (scale : ℕ) → scale < 256 ^ 4 → (length t.rest.now ≡ 304) × (length t.carried.now ≡ 4) → Typed (head_in scale t)
typed_texts t scale small l =
    typed_head t.date.now t.designation.now scale t.title.now t.rest.now t.designation2.now t.carried.now
    (all-bytes t.date.now t.date_bytes)
    (all-bytes t.designation.now t.designation_bytes)
    small
    (all-bytes t.title.now t.title_bytes)
    (l.0, all-bytes t.rest.now t.rest_bytes)
    (all-bytes t.designation2.now t.designation2_bytes)
    (l.1, all-bytes t.carried.now t.carried_bytes)

pub typed_pool : (t : RecordTable) → Bytes (lists t).bytes
typed_pool t = all-bytes t.bytes.now t.is_bytes
