-- The loop that is chosen serves the shape (`serves`), and points of one width are so many elements of it (`widths-repeat`).
use Rattle.fields.proofs.Laws.Widths.{serves, widths-repeat}
use Rattle.fields.specs.declared.shapes.Loop.TheVariants as By
use Rattle.fields.proofs.elements.put_elements.Goals as goal

pub returns-in-Two : goal.returns-in-Two
returns-in-Two c =
    let one = serves c.args.s By.Two c.loop_of.ensures c.in-Two.is in
    rw (widths-repeat one c.args.count _ c.elements_of-n.ensures.0) at c.put.ensures

pub returns-in-Four : goal.returns-in-Four
returns-in-Four c =
    let one = serves c.args.s By.Four c.loop_of.ensures c.in-Four.is in
    rw (widths-repeat one c.args.count _ c.elements_of-n.ensures.0) at c.put-in-Four.ensures

pub returns-in-Eight : goal.returns-in-Eight
returns-in-Eight c =
    let one = serves c.args.s By.Eight c.loop_of.ensures c.in-Eight.is in
    rw (widths-repeat one c.args.count _ c.elements_of-n.ensures.0) at c.put-in-Eight.ensures
