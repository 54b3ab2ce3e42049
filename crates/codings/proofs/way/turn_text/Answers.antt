use mathlib.Core.Path.{sym}
use Rattle.codings.proofs.way.turn_text.Goals as goal

pub returns-in-Some-clause-turned : goal.returns-in-Some-clause-turned
returns-in-Some-clause-turned g c =
    let kept = (g.met.W.Way.laws.lacking c.of-way.result c.args.text.now c.args.out.now c.in-Some.first (cc)).1 in
    sym (rw (c.of-way.ensures, c.in_ok-try_from.ensures) at kept)
