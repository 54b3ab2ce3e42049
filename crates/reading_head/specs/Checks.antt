-- The checks on passport and descriptor, one list.
use Rattle.std.specs.Prelude.{List, ◌++◌, ℕ}
use Rattle.layout.specs.Bytes.{bytes_in}
use Rattle.layout.specs.Fields.Descriptor
use Rattle.layout.specs.Fields.Passport
use Rattle.layout.specs.Reading.Sheets.{passport_checks, descriptor_checks, reserved_checks}
use Rattle.layout.specs.Shared.Carried.{rest_checks, carried_checks}
use Rattle.layout.specs.Walk.{Check}

-- the descriptor's, with its carried and reserved bytes
abbrev pub all_descriptor_checks : List ℕ → List Check
all_descriptor_checks s = descriptor_checks s ++ (carried_checks (bytes_in Descriptor.carried s) ++ reserved_checks s)

abbrev pub head_checks : List ℕ → List Check
head_checks s = passport_checks s ++ (rest_checks (bytes_in Passport.rest s) ++ all_descriptor_checks s)
