-- The fields of the passport's rest that a sheet's units are told by.
use Rattle.std.specs.Prelude.{List, ℕ}
use Rattle.fields.specs.declared.rests.UnitBytes.{UnitBytes}
use Rattle.layout.specs.Answers.Units.{in_rest}
use Rattle.layout.specs.Fields.Passport

abbrev pub unit_bytes : List ℕ → UnitBytes
unit_bytes rest =
    record {
      flags = in_rest Passport.flags rest;
      resolution = in_rest Passport.resolution rest;
      accuracy = in_rest Passport.accuracy rest;
      «unit» = in_rest Passport.unit rest;
      height_unit = in_rest Passport.height_unit rest;
    }
