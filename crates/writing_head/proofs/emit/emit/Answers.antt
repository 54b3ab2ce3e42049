-- Three runs of 28, 372 and 52 bytes go one after another (`Sofar`), each just where the one before ends; joined they are the head (`head-parts`).
use mathlib.Core.Path.{ap, ◌∙◌}
use lib.Seq.{sets}
use Rattle.writing_head.proofs.Laws.Sofar.{first, next, start-length, name_length, descriptor-length, head-parts}
use Rattle.writing_head.specs.Heads.{start_bytes, name_bytes, descriptor_bytes, head_in}
use Rattle.writing_head.proofs.emit.emit.Goals as goal

pub returns : goal.returns
returns c =
    let t = c.args.t in
    let f = c.requires.0 in
    let scale = c.args.scale in
    let count = c.args.count in
    let a = first c.args.out.now 0 (start_bytes t.date.now) 28 _ (start-length t.date.now f.date) c.emit_start.ensures in
    let b = next a (name_bytes t.designation.now scale t.title.now t.rest.now) 372 _
    (name_length t.designation.now scale t.title.now t.rest.now f.designation f.title f.rest) c.emit_names.ensures in
    let d = next b (descriptor_bytes t.designation2.now count t.carried.now) 52 _
    (descriptor-length t.designation2.now count t.carried.now f.designation2 f.carried) c.emit_descriptor.ensures in
    d.is ∙ ap (λ u. sets c.args.out.now 0 u) (head-parts (head_in scale t) count)
