-- The index that `build` wrote is lent to `select`, so what it gives is what the sheet gives (`built_picks`).
use mathlib.Core.Path.{◌≡◌}
use Prim.Native.Nat.{ℕ}
use native.Mathlib.Omega.{arith}
use Rattle.promises.proofs.Index.{built_within, built_true, built_picks, built_false}
use Rattle.promises.proofs.picks.select_built.Goals as goal

pub part-requires : goal.part-requires
part-requires c =
    let a = c.args in
    omega (arith, built_within a.setting.year a.s.now a.index.now _ _ (c.build.ensures.answers, c.build.ensures.written) _ c.in-Ok.is)

pub returns : goal.returns
returns c =
    let a = c.args in
    record {
      built = built_true a.setting.year a.s.now a.index.now _ _ (c.build.ensures.answers, c.build.ensures.written) _ c.in-Ok.is;
      picked = λ _ t read.
          built_picks a.setting.year a.s.now a.index.now _ _ (c.build.ensures.answers, c.build.ensures.written) _ c.in-Ok.is c.bytes.ensures
          c.part.result.now c.part.ensures a.other.year a.code a.picks.now _ _ (c.select.ensures.answers, c.select.ensures.written) t read;
    }

pub returns-in_default : goal.returns-in_default
returns-in_default c =
    let a = c.args in
    let no_index = built_false a.setting.year a.s.now a.index.now _ _ (c.build.ensures.answers, c.build.ensures.written) _ c.in_default.is in
    record { built = no_index; picked = λ no. absurd (let z : ◌≡◌ {A = ℕ} 0 1 = cc in omega arith) }
