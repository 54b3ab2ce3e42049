-- `Sofar` grows from 28 on by designation, scale, title and rest; both texts are padded to 32 bytes, and the rest is copied whole (`whole`).
use mathlib.Core.Path.{refl}
use Rattle.writing_head.proofs.Laws.Sofar.{first, next, padded-length, whole}
use Rattle.layout.specs.Bytes.{bytes}
use Rattle.layout.specs.Fields.Passport
use Rattle.layout.specs.Shared.Texts.{padded}
use Rattle.writing_head.proofs.emit.emit_names.Goals as goal

pub returns : goal.returns
returns c =
    let a = first c.args.out.now 28 (padded Passport.designation c.args.designation.now) 32 _
    (padded-length Passport.designation c.args.designation.now c.requires.0) c.put_text.ensures in
    let b = next a (bytes 4 c.args.scale) 4 _ refl c.put.ensures in
    let d = next b (padded Passport.title c.args.title.now) 32 _ (padded-length Passport.title c.args.title.now c.requires.1)
    c.put_text-2.ensures in
    (next d c.args.rest.now 304 _ c.requires.2
    (rw (whole c.args.rest.now 304 c.requires.2) at c.put_bytes.ensures)).is
