-- The head in a caller's hands: `head_of` answers how long each text is, and so many bytes from the texts' places on, with the carried bytes,
-- are the head that stands in the sheet, byte for byte. A text stands at the start of its field, so its length gives it back.
use mathlib.Core.List.{List}
use mathlib.Core.Path.{◌≡◌, refl, sym, ap, ap₂, ◌∙◌, subst}
use Prim.Native.Nat.{ℕ, ◌≤◌}
use lib.ListN.{length}
use native.Mathlib.Omega.{arith}
use Rattle.layout.specs.Answers.Calls.{reading}
use Rattle.layout.specs.Answers.Enums.{sizes_of, checked_of, head_at, headed_of}
use Rattle.layout.specs.Bytes.{number_in, bytes_in}
use Rattle.layout.specs.Fields.Descriptor
use Rattle.layout.specs.Fields.Passport
use Rattle.layout.specs.Reading.Sheets.{start, head_in, tails_in, sheet_walk}
use Rattle.layout.specs.Shared.Tails.{AllClean, clean_tails}
use Rattle.layout.specs.Sheet.{Head, Tails, Sheet}
use Rattle.layout.specs.Walk.{Answer, given, refused, outcome, ends}
use Rattle.layout.specs.declared.HeadAt.{HeadAt}
use Rattle.laws.proofs.Base.Texts.{text_at_lem, text-within}
use Rattle.laws.proofs.Base.Walks.{given_inj}
use Rattle.laws.proofs.Encoding.Tails.{all-clean}
use Rattle.promises.proofs.Contracts.{Heads}
use Rattle.promises.specs.Hands.{head_by, SaysClean, HeadWithin}
use Rattle.reading.proofs.Laws.Seen.{Seen, seen}
use Rattle.reading_head.proofs.Laws.Read.{read_head, read-tails, read-long}
use Rattle.std.specs.Prelude.{Ok}

-- all that is known of a sheet that is read
seen_read : (y : ℕ) (s : List ℕ) (u : Sheet) → reading y s ≡ given u → Seen y s (sizes_of u)
unfolding checked_of
seen_read y s u e = seen y s (sizes_of u) (Ok (sizes_of u)) (sym (ap checked_of e)) refl

-- its head and its tails stand in it
read_as : (y : ℕ) (s : List ℕ) (u : Sheet) → reading y s ≡ given u → outcome (sheet_walk s) ≡ ends u
read_as y s u e =
    let k = seen_read y s u e in
    subst (λ v. outcome (sheet_walk s) ≡ ends v) (given_inj (sym k.is ∙ e)) k.read

pub head-is : (y : ℕ) (s : List ℕ) (u : Sheet) → reading y s ≡ given u → head_in s ≡ u.head
head-is y s u e = sym (read_head s u (read_as y s u e))

pub tails_are : (y : ℕ) (s : List ℕ) (u : Sheet) → reading y s ≡ given u → tails_in s ≡ u.tails
tails_are y s u e = sym (read-tails s u (read_as y s u e))

-- the head of any bytes, by its own lengths
pub head-taken : (s : List ℕ) (a : Tails) → head_by s (head_at (head_in s) a) ≡ head_in s
head-taken s a i = record {
  date = text_at_lem Passport.date s i;
  designation = text_at_lem Passport.designation s i;
  scale = number_in Passport.scale s;
  title = text_at_lem Passport.title s i;
  rest = bytes_in Passport.rest s;
  designation2 = text_at_lem Descriptor.designation s i;
  carried = bytes_in Descriptor.carried s;
}

-- and a head that stands in them
pub head-given : (s : List ℕ) (h : Head) (a : Tails) → head_in s ≡ h → head_by s (head_at h a) ≡ h
head-given s h a stands = ap (λ k. head_by s (head_at k a)) (sym stands) ∙ head-taken s a ∙ stands

by_headed : (a : Answer Sheet) (k : HeadAt) → Ok k ≡ headed_of a → (t : Sheet) × (a ≡ given t) × (k ≡ head_at t.head t.tails)
unfolding headed_of
by_headed (given t) k e = (t, refl, cc)
by_headed (refused n p y) k e = absurd (let q : ◌≡◌ {A = ℕ} 0 1 = cc in omega arith)

-- what `head_of` answers is of the head and the tails that stand in the sheet,
pub answer-of : (y : ℕ) (s : List ℕ) (a : HeadAt) → Heads y s (Ok a) → a ≡ head_at (head_in s) (tails_in s)
answer-of y s a c =
    let g = by_headed (reading y s) a c in
    g.2 ∙ sym (ap₂ head_at (head-is y s g.0 g.1) (tails_are y s g.0 g.1))

-- so where it says that all four text fields are clean, the tails in the sheet are;
pub tails-clean : (y : ℕ) (s : List ℕ) (a : HeadAt) → Heads y s (Ok a) → SaysClean a → AllClean (tails_in s)
tails-clean y s a c k =
    let e = answer-of y s a c in
    record {
      date = sym (ap (λ (x : HeadAt). x.date.clean) e) ∙ k.date;
      designation = sym (ap (λ (x : HeadAt). x.designation.clean) e) ∙ k.designation;
      title = sym (ap (λ (x : HeadAt). x.title.clean) e) ∙ k.title;
      designation2 = sym (ap (λ (x : HeadAt). x.designation2.clean) e) ∙ k.designation2;
    }

pub says_clean : (h : Head) → SaysClean (head_at h (clean_tails h))
says_clean h =
    let c = all-clean h in
    record { date = c.date; designation = c.designation; title = c.title; designation2 = c.designation2 }

-- and the bytes that a caller takes by it are that head.
pub head_by_lem : (y : ℕ) (s : List ℕ) (a : HeadAt) → Heads y s (Ok a) → head_by s a ≡ head_in s
head_by_lem y s a c = ap (head_by s) (answer-of y s a c) ∙ head-taken s (tails_in s)

-- They stand in the sheet.
pub head-within : (y : ℕ) (s : List ℕ) (a : HeadAt) → Heads y s (Ok a) → HeadWithin s a
head-within y s a c =
    let g = by_headed (reading y s) a c in
    let k = seen_read y s g.0 g.1 in
    let long : start ≤ length s = read-long s (record { sheet = k.sheet; read = k.read }) in
    rw (answer-of y s a c) (
      long,
      text-within Passport.date s (omega (arith, long)),
      text-within Passport.designation s (omega (arith, long)),
      text-within Passport.title s (omega (arith, long)),
      text-within Descriptor.designation s (omega (arith, long)),
    )
