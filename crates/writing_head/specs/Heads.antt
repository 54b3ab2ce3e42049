-- The rules on what the writer is given for a head, one list; and its bytes, as the code writes them.
use Rattle.std.specs.Prelude.{List, [], ◌∷◌, ◌++◌, ◌≡◌, ◌<◌, ℕ, length, replicate}
use Rattle.layout.specs.Answers.Lent.{head_of}
use Rattle.layout.specs.Bytes.{stored}
use Rattle.layout.specs.Fields.Descriptor
use Rattle.layout.specs.Fields.Passport
use Rattle.layout.specs.Layout.Encode.{encode_head}
use Rattle.layout.specs.Shared.Carried.{rest_checks, carried_checks}
use Rattle.layout.specs.Shared.Tails.{clean_tails}
use Rattle.layout.specs.Shared.Texts.{padded, text_fits}
use Rattle.layout.specs.Sheet.{Head}
use Rattle.layout.specs.Walk.{Check}
use Rattle.layout.specs.Writing.Sheets.{title_rules}
use Rattle.writing_head.specs.declared.texts.HeadTexts.{HeadTexts}

-- what the writer is given for a head, with its scale
abbrev pub head_in : ℕ → HeadTexts → Head
head_in scale t = head_of t.date.now t.designation.now scale t.title.now t.rest.now t.designation2.now t.carried.now

-- each text is shorter than its field, and the rest and the carried bytes are whole
pub record Fits (t : HeadTexts) : Type 0 where
  pub date : length t.date.now < (Passport.date).width
  pub designation : length t.designation.now < (Passport.designation).width
  pub title : length t.title.now < (Passport.title).width
  pub rest : length t.rest.now ≡ (Passport.rest).width
  pub designation2 : length t.designation2.now < (Descriptor.designation).width
  pub carried : length t.carried.now ≡ (Descriptor.carried).width

abbrev pub head_rules : Head → List Check
head_rules h = title_rules h ++ (rest_checks h.rest ++ ((text_fits Descriptor.designation h.designation2 ∷ []) ++ carried_checks h.carried))

-- the passport's bytes up to its date, with 0 for the sum; those from its designation on; and the descriptor's
abbrev pub start_bytes : List ℕ → List ℕ
start_bytes date =
    stored Passport.identifier Passport.identifier_is
    ++ stored Passport.own_length Passport.own_length_is
    ++ stored Passport.edition Passport.edition_is
    ++ stored Passport.sum 0
    ++ padded Passport.date date

abbrev pub name_bytes : List ℕ → ℕ → List ℕ → List ℕ → List ℕ
name_bytes designation scale title rest =
    padded Passport.designation designation ++ stored Passport.scale scale ++ padded Passport.title title ++ rest

abbrev pub descriptor_bytes : List ℕ → ℕ → List ℕ → List ℕ
descriptor_bytes designation2 count carried =
    stored Descriptor.identifier Descriptor.identifier_is
    ++ stored Descriptor.own_length Descriptor.own_length_is
    ++ padded Descriptor.designation designation2
    ++ stored Descriptor.count count
    ++ carried
    ++ replicate (Descriptor.reserved).width 0

-- a head's bytes with clean tails, a count, and 0 for the sum
abbrev pub clean_head : Head → ℕ → List ℕ
clean_head h count = encode_head h (clean_tails h) 0 count
