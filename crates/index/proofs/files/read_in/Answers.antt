-- There is room for three numbers an entry, or there is not.
use mathlib.Core.List.{List}
use mathlib.Core.Path.{◌≡◌, sym}
use Prim.Native.Nat.{ℕ, ◌*◌}
use lib.ListN.{length}
use native.Mathlib.Omega.{arith}
use Rattle.index.proofs.Laws.Each.{all_rows}
use Rattle.index.proofs.Laws.Told.{told_short, told_fits}
use Rattle.layout.specs.Index.Selecting.{each, entry_row}
use Rattle.index.proofs.files.read_in.Goals as goal

pub returns-then-entries-n : goal.returns-then-entries-n
returns-then-entries-n g c =
    let rows : List ℕ =
    each entry_row 0 (g.E.Entries.left c.args.listed) in
    let long : 3 * c.count-n.result ≡ length rows =
    all_rows _ c.count-n.result (sym c.count-n.ensures.0) in
    let both = told_short c.args.entries.now rows _ long (omega arith) _ c.refused.ensures in
    record { answers = both.0; written = both.1 }

pub returns : goal.returns
returns g c =
    let rows : List ℕ =
    each entry_row 0 (g.E.Entries.left c.args.listed) in
    let long : 3 * c.count-n.result ≡ length rows =
    all_rows _ c.count-n.result (sym c.count-n.ensures.0) in
    let both = told_fits c.args.entries.now rows _ long (omega arith) _ c.put_entries.ensures in
    record { answers = both.0; written = both.1 }
