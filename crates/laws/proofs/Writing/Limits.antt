-- What TOO LONG bounds: in a sheet within the limit every length and count fits its field.
use mathlib.Core.List.{List, [], ◌∷◌}
use Prim.Native.Nat.{◌^◌, ◌<◌}
use lib.ListN.{length, length-append}
use native.Mathlib.Omega.{arith}
use Rattle.layout.specs.Bytes.{All, flat}
use Rattle.layout.specs.Layout.Encode.{encode_record}
use Rattle.layout.specs.Layout.Fine.{FineRecord}
use Rattle.layout.specs.Sheet.{Record}
use Rattle.laws.proofs.Writing.Records.{NearRecord, near-fine, fine-near}

-- near records of few bytes are fine, and fine ones are near
pub all-fine : (l : List Record) → length (flat encode_record l) < 256 ^ 4 → All NearRecord l → All FineRecord l
all-fine [] h n = tt
all-fine (r ∷ l) h n =
    let e = length-append (encode_record r) (flat encode_record l) in
    (near-fine r n.0 (omega arith), all-fine l (omega arith) n.1)

pub all_near : (l : List Record) → All FineRecord l → All NearRecord l
all_near [] f = tt
all_near (r ∷ l) f = (fine-near r f.0, all_near l f.1)
