-- The tails of a sheet's four text fields (02, 6): whether all are clean, and the clean ones, which the writer makes.
use Rattle.std.specs.Prelude.{true, List, ◌≡◌}
use Rattle.layout.specs.Fields.Descriptor
use Rattle.layout.specs.Fields.Passport
use Rattle.layout.specs.Shared.Texts.{is_clean, clean_tail}
use Rattle.layout.specs.Sheet.{Record, Head, Tails, Sheet}

pub record AllClean (tails : Tails) : Type 0 where
  pub date : is_clean tails.date ≡ true
  pub designation : is_clean tails.designation ≡ true
  pub title : is_clean tails.title ≡ true
  pub designation2 : is_clean tails.designation2 ≡ true

abbrev pub clean_tails : Head → Tails
clean_tails h =
    record {
      date = clean_tail Passport.date h.date;
      designation = clean_tail Passport.designation h.designation;
      title = clean_tail Passport.title h.title;
      designation2 = clean_tail Descriptor.designation h.designation2;
    }

-- a head and records as a sheet, with clean tails
abbrev pub clean_sheet : Head → List Record → Sheet
clean_sheet h records = record { head = h; tails = clean_tails h; records = records }

-- the same sheet with clean tails
abbrev pub clean_of : Sheet → Sheet
clean_of t = clean_sheet t.head t.records
