-- Where the test is true, each of its five comparisons holds, and such bytes pass every check at every setting (`plain_passes`).
use Prim.Native.Nat.{◌%◌}
use mathlib.Core.Bool.{◌&&◌}
use lib.Dec.{eqb, leb, ltb}
use borrow.Author.Tests.{leb-true, ltb-true, eqb-true}
use Rattle.laws.proofs.Base.Lists.{both_true}
use Rattle.fields.proofs.Laws.Plain.{plain_passes}
use Rattle.fields.proofs.flags.plain.Goals as goal

pub returns : goal.returns
returns c = λ h.
    let b20 = c.args.bytes.byte20 in
    let b21 = c.args.bytes.byte21 in
    let b22 = c.args.bytes.byte22 in
    let both = both_true (leb b20 5 && (ltb b21 8 && eqb (b21 % 2) 0)) (ltb b22 8 && eqb (b22 % 2) 0) h in
    let first = both_true (leb b20 5) (ltb b21 8 && eqb (b21 % 2) 0) both.0 in
    let second = both_true (ltb b21 8) (eqb (b21 % 2) 0) first.1 in
    let third = both_true (ltb b22 8) (eqb (b22 % 2) 0) both.1 in
    plain_passes b20 b21 b22
    (leb-true b20 5 first.0)
    (ltb-true b21 8 second.0)
    (eqb-true (b21 % 2) 0 second.1)
    (ltb-true b22 8 third.0)
    (eqb-true (b22 % 2) 0 third.1)
