-- From header to header: where the records of a sheet start, by their total lengths alone.
use Rattle.std.specs.Prelude.{ℕ, zero, suc, ◌+◌, List, drop}
use Rattle.layout.specs.Bytes.{number_in}
use Rattle.layout.specs.Fields.Header

-- the place of the record that is the n-th, from 0, of those that start at a place of s
abbrev pub place_in : ℕ → ℕ → List ℕ → ℕ
place_in zero place s = place
place_in (suc n) place s = place_in n (place + number_in Header.total (drop place s)) s
