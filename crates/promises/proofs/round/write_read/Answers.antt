-- The head and the table that are passed on are those in a caller's hands: each part by the contract of the call that took it (`passed_on`).
use Rattle.promises.proofs.Trips.{passed_on}
use Rattle.promises.proofs.round.write_read.Goals as goal

pub returns : goal.returns
returns c =
    let both = passed_on c.args.setting.year c.args.s.now c.args.h _ _ _ _ _ _
    c.part-date.ensures
    c.part-designation.ensures
    c.part-title.ensures
    c.rest_of-rest.ensures
    c.part-designation2.ensures
    c.carried_of-carried.ensures
    c.args.z c.args.table.now c.args.elements.now c.args.bytes.now _ _ _
    c.first_of-numbers.ensures
    c.first_of-pool.ensures
    c.part-texts.ensures
    c.args.out.now _ _ (c.write.ensures.answers, c.write.ensures.sheet) in
    record { answers = both.0; sheet = both.1 }
