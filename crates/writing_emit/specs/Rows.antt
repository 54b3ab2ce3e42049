-- A record table that pass 1 has accepted.
use Rattle.std.specs.Prelude.{List, ◌≡◌, ℕ, ◌+◌, ◌≤◌, length}
use Rattle.layout.specs.Bytes.{All, flat}
use Rattle.layout.specs.Fields.{limit}
use Rattle.layout.specs.Layout.Encode.{encode_record}
use Rattle.layout.specs.Sheet.{Record}
use Rattle.layout.specs.Writing.Tables.{table, flatten}
use Rattle.laws.proofs.Writing.Records.{NearRecord}

-- the three lists are so many records flattened, and from w on there is room for their bytes in a slice of length ol
pub record Accepted (ns es pool : List ℕ) (n w ol : ℕ) : Type 0 where
  pub rs : List Record
  pub near : All NearRecord rs
  pub is : flatten rs ≡ table ns es pool
  pub count : length rs ≡ n
  pub small : length (flat encode_record rs) ≤ limit
  pub room : w + length (flat encode_record rs) ≤ ol
