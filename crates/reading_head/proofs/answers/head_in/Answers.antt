-- A sheet that is read holds every field (`read-long`), and what is answered of the fields is what its head answers (`head-answered`).
use native.Mathlib.Omega.{arith}
use Rattle.reading_head.proofs.Laws.Read.{read-long, head-answered}
use Rattle.reading_head.proofs.answers.head_in.Goals as goal

pub text_in-date-requires : goal.text_in-date-requires
text_in-date-requires c = let a = read-long _ c.requires in omega (arith, a)

pub text_in-designation-requires : goal.text_in-designation-requires
text_in-designation-requires c = let a = read-long _ c.requires in omega (arith, a)

pub at-scale-requires : goal.at-scale-requires
at-scale-requires c = let a = read-long _ c.requires in omega (arith, a)

pub text_in-title-requires : goal.text_in-title-requires
text_in-title-requires c = let a = read-long _ c.requires in omega (arith, a)

pub text_in-designation2-requires : goal.text_in-designation2-requires
text_in-designation2-requires c = let a = read-long _ c.requires in omega (arith, a)

pub returns : goal.returns
returns c =
    let s = c.args.s.now in
    λ t e. head-answered s t e _ _ _ _ _ c.text_in-date.ensures c.text_in-designation.ensures c.text_in-title.ensures
    c.text_in-designation2.ensures c.at-scale.ensures
