-- Later parts follow each other in two numbers each, and each call is the taker of a later part.
use mathlib.Core.List.{[]}
use Rattle.std.proofs.Common.{rules}
use Rattle.layout.specs.Layout.Fine.{FineSubobject}
use Rattle.layout.specs.Layout.Sizes.{subobject_bytes}
use Rattle.layout.specs.Shared.Row.{reference_of}
use Rattle.layout.specs.Walk.{up_to}
use Rattle.layout.specs.Writing.Parts.{later_rules, take_part}
use Rattle.layout.specs.Writing.Tables.{flatten_part}
use Rattle.laws.proofs.Writing.Parts.{subobject_takes, part-numbers}
use Rattle.writing_check.proofs.Laws.Moves.{in_keeps}
use Rattle.writing_check.proofs.Laws.Pieces.{may_take, took_is}
use Rattle.writing_check.specs.Places.{lists, In}
use Rattle.writing_check.proofs.parts.take_laters.Goals as goal

pub take_all-requires : goal.take_all-requires
take_all-requires c =
    let ref = reference_of c.args.reference in
    may_take (up_to 0) 2 (take_part ref (later_rules c.args.marked)) flatten_part (FineSubobject ref c.args.marked) (λ a. [])
    (subobject_takes (up_to 0) ref c.args.marked) (subobject_bytes ref) part-numbers (In c.args.t.now.elements.now) (lists c.args.t.now) (in_keeps c.args.t.now.elements.now) _ _
    (λ q m f. search rules) c.args.n c.args.p c.requires.0 c.requires.1 (λ q h room. search rules)

pub returns : goal.returns
returns c = λ y.
    let ref = reference_of c.args.reference in
    took_is (up_to y) 2 (take_part ref (later_rules c.args.marked)) flatten_part (FineSubobject ref c.args.marked) (λ a. [])
    (subobject_takes (up_to y) ref c.args.marked) (subobject_bytes ref) part-numbers (In c.args.t.now.elements.now) (lists c.args.t.now) (in_keeps c.args.t.now.elements.now) (λ q. Unit {0}) _
    (λ q m f. search rules) c.args.n c.args.p c.take_all.result c.requires.0 c.requires.1 c.take_all.ensures
