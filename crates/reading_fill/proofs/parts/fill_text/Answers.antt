-- Without the bit nothing is written; with it the text is as many bytes as its length byte says, right after that byte (`text-is`, `text-ask`).
use native.Mathlib.Omega.{arith}
use Rattle.reading_fill.proofs.Laws.Texts.{text-some, text-is, text-length, text-ask}
use mathlib.Core.Path.{refl}
use Rattle.reading_fill.proofs.parts.fill_text.Goals as goal

pub at-n-requires : goal.at-n-requires
at-n-requires c =
    text-some c.args.xs.now c.args.at 0 c.args.text c.if-text.true c.requires.0

pub put_bytes-requires : goal.put_bytes-requires
put_bytes-requires c =
    text-ask c.args.xs.now c.args.at _ c.args.text c.if-text.true c.requires.0 c.at-n.ensures _ _
    c.requires.1

pub returns-then-text : goal.returns-then-text
returns-then-text c =
    record {
      is = (
        text-length c.args.xs.now c.args.at _ c.args.text c.if-text.true c.requires.0 c.at-n.ensures,
        omega
            arith,
      );
      wrote = rw (← text-is c.args.xs.now c.args.at _ c.args.text c.if-text.true c.requires.0 c.at-n.ensures)
          c.put_bytes.ensures;
    }

pub returns : goal.returns
returns c =
    record { is = rw c.if-text.false (refl, omega arith); wrote = rw c.if-text.false refl }
