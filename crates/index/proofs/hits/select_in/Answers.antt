-- There is room for the hits, or there is not.
use mathlib.Core.List.{List}
use mathlib.Core.Path.{refl, sym, ◌∙◌}
use Prim.Native.Nat.{ℕ, ◌≤◌}
use borrow.Author.Tests.{leb-true, leb-false}
use lib.ListN.{length}
use native.Mathlib.Omega.{arith}
use Rattle.index.proofs.Laws.Told.{told_short, told_fits}
use Rattle.layout.specs.Index.Selecting.{each, pick_entry}
use Rattle.index.proofs.hits.select_in.Goals as goal

pub returns-then-not-have_room : goal.returns-then-not-have_room
returns-then-not-have_room g c =
    let hits : List ℕ =
    each (pick_entry c.args.code) 0 (g.E.Entries.left c.args.entries) in
    let both = told_short c.args.picks.now hits (length hits) refl
    (leb-false _ _ (sym c.have_room.ensures ∙ c.if-not-have_room.true)) _ c.refused.ensures in
    record { answers = both.0; written = both.1 }

pub returns : goal.returns
returns g c =
    let hits : List ℕ =
    each (pick_entry c.args.code) 0 (g.E.Entries.left c.args.entries) in
    let fits : length hits ≤ length c.args.picks.now =
    leb-true _ _ (sym c.have_room.ensures ∙ c.if-not-have_room.false) in
    let both = told_fits c.args.picks.now hits _ c.put_hits.ensures.counted (omega (arith, c.put_hits.ensures.counted, fits)) _
    c.put_hits.ensures.written in
    record { answers = both.0; written = both.1 }
