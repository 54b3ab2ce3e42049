-- `Sofar` grows from 0 on by four numbers of four bytes and the date, which is padded to twelve.
use Rattle.layout.specs.Bytes.{bytes}
use Rattle.layout.specs.Fields.Passport
use Rattle.layout.specs.Shared.Texts.{padded}
use mathlib.Core.Path.{refl}
use Rattle.writing_head.proofs.Laws.Sofar.{first, next, padded-length}
use Rattle.writing_head.proofs.emit.emit_start.Goals as goal

pub returns : goal.returns
returns c =
    let a = first c.args.out.now 0 (bytes 4 0x00465853) 4 _ refl c.put.ensures in
    let b = next a (bytes 4 400) 4 _ refl c.put-2.ensures in
    let d = next b (bytes 4 0x00040000) 4 _ refl c.put-3.ensures in
    let e = next d (bytes 4 0) 4 _ refl c.put-4.ensures in
    (next e (padded Passport.date c.args.date.now) 12 _ (padded-length Passport.date c.args.date.now c.requires.0)
    c.put_text.ensures).is
