-- Too few numbers for a row (`row-short`), a rule refuses, or the row has room for what is inside and that is taken (`row_takes`).
use Prim.Native.Nat.{◌+◌, ◌-◌}
use lib.ListN.{length}
use mathlib.Core.Path.{refl}
use native.Mathlib.Omega.{arith}
use Rattle.std.proofs.Common.{rules}
use Rattle.fields.proofs.Laws.Chain.{step_holds}
use Rattle.writing_check.specs.Rows.{row_of, all_rules}
use Rattle.writing_check.proofs.Laws.Moves.{capped-low}
use Rattle.writing_check.proofs.Laws.Rows.{row-short, row-roomy, row_takes}
use Rattle.writing_check.proofs.rows.take_row.Goals as goal

pub returns-then-left-lt-WIDTH : goal.returns-then-left-lt-WIDTH
returns-then-left-lt-WIDTH c =
    rw (← row-short c.args.year c.args.t.now.numbers.now c.args.t.now.elements.now c.args.t.now.bytes.now c.args.p c.if-left-lt-WIDTH.true) (search rules)

pub take_inside-requires : goal.take_inside-requires
take_inside-requires c =
    let h = c.requires in
    let left = length c.args.t.now.numbers.now - c.args.p.number in
    let k = row-roomy (row_of c.read-a.result) left (step_holds c.args.year c.args.p.number (all_rules (row_of c.read-a.result) left) c.rules.result c.rules.ensures tt
    c.in_ok-rules.was) in (
      record {
        number = omega arith;
        element = h.element;
        byte = h.byte;
        length = rw c.longer.ensures (capped-low (c.args.p.length + 32));
        is_bytes = h.is_bytes;
      },
      k.some,
      omega (arith, k),
    )

pub returns : goal.returns
returns c =
    rw (
      row_takes c.args.year c.args.t.now.numbers.now c.args.t.now.elements.now c.args.t.now.bytes.now c.args.p c.if-left-lt-WIDTH.false c.read-a.result
          c.read-a.ensures c.longer.result c.longer.ensures,
      ← c.rules.ensures,
      c.in_ok-rules.was,
    ) c.take_inside.ensures

pub returns-in_err-rules : goal.returns-in_err-rules
returns-in_err-rules c =
    rw (
      row_takes c.args.year c.args.t.now.numbers.now c.args.t.now.elements.now c.args.t.now.bytes.now c.args.p c.if-left-lt-WIDTH.false c.read-a.result
          c.read-a.ensures _ refl,
      ← c.rules.ensures,
      c.in_err-rules.was,
    ) (search rules)
