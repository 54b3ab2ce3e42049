-- With a text, length byte, text and zero are put side by side (`text-wrote`); without one nothing is written (`text-none`).
use mathlib.Core.Path.{refl}
use Rattle.writing_emit.proofs.Laws.Parts.{text-some, text-wrote, text-none}
use native.Mathlib.Omega.{arith}
use Rattle.writing_emit.proofs.parts.emit_text.Goals as goal

pub put-requires : goal.put-requires
put-requires c =
    let a = text-some c.args.bytes.now c.args.at c.args.n c.args.text c.if-text.true c.requires.0 in
    omega (arith, a, c.requires.2)

pub put_bytes-requires : goal.put_bytes-requires
put_bytes-requires c =
    let a = text-some c.args.bytes.now c.args.at c.args.n c.args.text c.if-text.true c.requires.0 in
    omega (arith, a, c.requires.0, c.requires.2, c.put.auto)

pub put-requires-then-text : goal.put-requires-then-text
put-requires-then-text c =
    let a = text-some c.args.bytes.now c.args.at c.args.n c.args.text c.if-text.true c.requires.0 in
    omega (arith, a, c.requires.2, c.put.auto, c.put_bytes.auto)

pub returns-then-text : goal.returns-then-text
returns-then-text c =
    record {
      is = (
        text-some c.args.bytes.now c.args.at c.args.n c.args.text c.if-text.true c.requires.0,
        omega (arith, c.requires.1),
      );
      wrote = text-wrote c.args.bytes.now c.args.at c.args.n c.args.text c.if-text.true c.requires.0
          c.args.out.now _ _ _ c.args.w c.put.ensures c.put_bytes.ensures
          c.put-then-text.ensures;
    }

pub returns : goal.returns
returns c =
    let none = text-none c.args.bytes.now c.args.at c.args.n c.args.text c.if-text.false in
    record { is = rw (← none) (refl, omega arith); wrote = rw (← none) refl }
