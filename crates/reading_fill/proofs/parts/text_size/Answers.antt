-- Two cases by the bit for text: a text takes its length byte, its bytes and a closing zero, and no text takes nothing.
use mathlib.Core.Path.{refl}
use native.Mathlib.Omega.{arith}
use Rattle.reading_fill.proofs.parts.text_size.Goals as goal

pub returns-then-text : goal.returns-then-text
returns-then-text c = (rw c.if-text.true refl, omega arith)

pub returns : goal.returns
returns c = (rw c.if-text.false refl, omega arith)
