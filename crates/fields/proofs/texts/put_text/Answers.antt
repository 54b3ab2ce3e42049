-- The bytes of the text and the zeros up to the width are written one after the other, which is one write of both (`text-zeros`).
use Rattle.fields.proofs.Laws.Store.{text-zeros}
use Rattle.fields.proofs.texts.put_text.Goals as goal

pub returns : goal.returns
returns c =
    rw (c.put_zeros.ensures, c.put_bytes.ensures)
    (text-zeros c.args.out.now c.args.text.now c.args.w c.args.width c.requires.0)
