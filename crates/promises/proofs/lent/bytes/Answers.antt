-- A slice of bytes is a list of numbers below 256: that is what is known of each of its elements.
use native.Mathlib.Omega.{arith}
use Rattle.laws.proofs.Base.Numbers.{all-bytes}
use Rattle.promises.proofs.lent.bytes.Goals as goal

pub returns : goal.returns
returns c =
    all-bytes c.args.s.now (λ i. omega (arith, c.type_inv.s i))
