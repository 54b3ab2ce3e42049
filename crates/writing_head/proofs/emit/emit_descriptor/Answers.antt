-- `Sofar` grows field by field from 400 on; each field has its full width, the text by its padding, so the next one starts at its place.
use mathlib.Core.Path.{refl}
use lib.ListN.{replicate}
use Rattle.writing_head.proofs.Laws.Sofar.{first, next, padded-length, whole}
use Rattle.layout.specs.Bytes.{bytes}
use Rattle.layout.specs.Fields.Descriptor
use Rattle.layout.specs.Shared.Texts.{padded}
use Rattle.writing_head.proofs.emit.emit_descriptor.Goals as goal

pub returns : goal.returns
returns c =
    let a = first c.args.out.now 400 (bytes 4 0x00544144) 4 _ refl c.put.ensures in
    let b = next a (bytes 4 52) 4 _ refl c.put-2.ensures in
    let d = next b (padded Descriptor.designation c.args.designation2.now) 32 _
    (padded-length Descriptor.designation c.args.designation2.now c.requires.0) c.put_text.ensures in
    let e = next d (bytes 4 c.args.count) 4 _ refl c.put-3.ensures in
    let f = next e c.args.carried.now 4 _ c.requires.1
    (rw (whole c.args.carried.now 4 c.requires.1) at c.put_bytes.ensures) in
    (next f (replicate 4 0) 4 _ refl c.put_zeros.ensures).is
