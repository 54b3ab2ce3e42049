-- The elements' checks come first, and then the text's.
use Prim.Native.Nat.{◌-◌}
use lib.ListN.{length, drop}
use Rattle.std.proofs.Common.{rules}
use Rattle.writing_check.proofs.Laws.Moves.{then_checked, then_refused}
use Rattle.writing_check.specs.Parts.{elements_by, text_by}
use Rattle.writing_check.proofs.parts.pool_rules.Goals as goal

pub returns : goal.returns
returns c = λ y.
    let t = c.args.t.now in
    let p = c.args.p in
    then_checked y p.number
    (elements_by c.args.s c.args.points (length t.elements.now - p.element) (drop p.element t.elements.now))
    (text_by c.args.s c.args.size (length t.bytes.now - p.byte))
    c.element_rules.result c.text_rules.result (c.element_rules.ensures y) c.in_ok-element_rules.was (c.text_rules.ensures y)

pub returns-in_err-element_rules : goal.returns-in_err-element_rules
returns-in_err-element_rules c = λ y.
    let t = c.args.t.now in
    let p = c.args.p in
    rw (← then_refused y p.number
    (elements_by c.args.s c.args.points (length t.elements.now - p.element) (drop p.element t.elements.now))
    (text_by c.args.s c.args.size (length t.bytes.now - p.byte))
    c.element_rules.result _ (c.element_rules.ensures y) c.in_err-element_rules.was)
    (search rules)
