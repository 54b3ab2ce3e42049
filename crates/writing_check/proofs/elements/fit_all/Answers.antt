-- Every element is looked at up to one that is too wide (`all_from_yields_List`), as the definition does (`fit_all_lem`).
use mathlib.Core.Path.{◌≡◌, ap, ◌∙◌}
use Prim.Native.Nat.{◌+◌, ◌-◌}
use lib.Dec.{ltb}
use lib.ListN.{take, drop}
use native.Mathlib.Omega.{arith}
use Rattle.std.proofs.Common.{rules, tests}
use Rattle.std.proofs.lemmas.Iterator.Search.{all_from_yields_List}
use Rattle.std.proofs.lemmas.Iterator.{YieldsList-from_slice}
use Rattle.writing_check.proofs.Laws.Elements.{fit_all_lem}
use Rattle.writing_check.proofs.elements.fit_all.Goals as goal

pub returns : goal.returns
returns c = λ w e.
    let n : c.args.at + c.args.n - c.args.at ≡ c.args.n = omega arith in
    all_from_yields_List (λ x. ltb x c.args.bound) _ _ c.all.result c.all.ensures.ran
    (YieldsList-from_slice (take c.args.n (drop c.args.at c.args.elements.now))
    (c.iter.ensures.rest ∙ ap (λ k. take k (drop c.args.at c.args.elements.now)) n)) (λ x b q k. search (rules, tests))
    ∙ rw e (fit_all_lem w c.args.n c.args.at c.args.elements.now c.requires)
