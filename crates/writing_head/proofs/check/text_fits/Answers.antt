-- The one rule tests what `is_text` answers, and that is the definition's own test.
use Rattle.writing_head.proofs.check.text_fits.Goals as goal

pub returns : goal.returns
returns c = rw (← c.is_text.ensures c.args.place) c.demand.ensures
