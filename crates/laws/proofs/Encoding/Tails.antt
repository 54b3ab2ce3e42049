-- Clean tails: they are fine and clean, and a fine sheet whose tails are clean has these.
use mathlib.Core.Path.{◌≡◌}
use Rattle.layout.specs.Fields.Descriptor
use Rattle.layout.specs.Fields.Passport
use Rattle.layout.specs.Layout.Fine.{FineHead, FineTails, Fine}
use Rattle.layout.specs.Shared.Tails.{AllClean, clean_tails, clean_of}
use Rattle.layout.specs.Sheet.{Head, Sheet}
use Rattle.laws.proofs.Base.Texts.{clean-fine, clean-zeros, clean-tail}

pub clean-tails : (h : Head) → FineHead h → FineTails h (clean_tails h)
clean-tails h f = record {
  date = clean-fine Passport.date h.date f.date;
  designation = clean-fine Passport.designation h.designation f.designation;
  title = clean-fine Passport.title h.title f.title;
  designation2 = clean-fine Descriptor.designation h.designation2 f.designation2;
}

pub all-clean : (h : Head) → AllClean (clean_tails h)
all-clean h = record {
  date = clean-zeros Passport.date h.date;
  designation = clean-zeros Passport.designation h.designation;
  title = clean-zeros Passport.title h.title;
  designation2 = clean-zeros Descriptor.designation h.designation2;
}

pub clean_is : (u : Sheet) → Fine u → AllClean u.tails → u ≡ clean_of u
clean_is u f c =
    let h : Head = u.head in
    let d = clean-tail Passport.date h.date u.tails.date f.tails.date c.date in
    let g = clean-tail Passport.designation h.designation u.tails.designation f.tails.designation c.designation in
    let t = clean-tail Passport.title h.title u.tails.title f.tails.title c.title in
    let k = clean-tail Descriptor.designation h.designation2 u.tails.designation2 f.tails.designation2 c.designation2 in
    λ j. record { head = h; tails = record { date = d j; designation = g j; title = t j; designation2 = k j }; records = u.records }
