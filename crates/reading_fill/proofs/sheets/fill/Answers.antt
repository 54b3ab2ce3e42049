-- An accepted sheet has room for all its records (`sheet_asks`), and what they write is the flattened sheet, from each slice's start (`sheet-filled`).
use Rattle.std.proofs.Common.{rules}
use native.Mathlib.Omega.{arith}
use Rattle.reading_fill.proofs.Laws.Laid.{sheet-long, sheet_asks, sheet-filled}
use Rattle.reading_fill.proofs.sheets.fill.Goals as goal

pub at-n-requires : goal.at-n-requires
at-n-requires c =
    let a = sheet-long c.args.s.now _ _ _ c.requires in
    omega (arith, a)

pub fill_records-requires : goal.fill_records-requires
fill_records-requires c =
    sheet_asks c.args.s.now _ _ _ c.requires _ c.at-n.ensures

pub returns : goal.returns
returns c =
    sheet-filled c.args.s.now _ c.at-n.ensures _ _ c.fill_records.ensures.wrote _ _ _ (search rules)
    (search rules) (search rules)
