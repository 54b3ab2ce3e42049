-- The bits of the eight plane corners at their places in a sheet. (01, Passport: "+104 eight doubles, plane corners")
use Rattle.std.specs.Prelude.{List, ℕ, ◌+◌, ◌*◌}
use Rattle.layout.specs.Bytes.{field, number_in}
use Rattle.layout.specs.Fields.Passport
use Rattle.layout.specs.declared.PlaneCorners.{PlaneCorners}

-- the bits of the n-th of the eight doubles, from 0, at its place in the sheet
abbrev pub stored_at : List ℕ → ℕ → ℕ
stored_at s n = number_in (field ((Passport.corners).place + 8 * n) 8) s

-- X and Y of the south-west, north-west, north-east and south-east corner
abbrev pub stored_in : List ℕ → PlaneCorners ℕ
stored_in s =
    record {
      sw_x = stored_at s 0;
      sw_y = stored_at s 1;
      nw_x = stored_at s 2;
      nw_y = stored_at s 3;
      ne_x = stored_at s 4;
      ne_y = stored_at s 5;
      se_x = stored_at s 6;
      se_y = stored_at s 7;
    }
