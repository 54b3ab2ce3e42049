-- A sum on its way: what is summed and what is left make up the whole.
use Rattle.std.specs.Prelude.{List, ◌≡◌, ℕ, ◌+◌, ◌*◌, ◌≤◌, length, drop}
use Rattle.fields.specs.declared.sums.Summed.{Summed}
use Rattle.layout.specs.Bytes.{total}

pub record SummedIn (s : List ℕ) (o : Summed) : Type 0 where
  pub inside : o.to ≤ length s
  pub rest : o.sum + total (drop o.to s) ≡ total s
  pub small : o.sum ≤ 255 * o.to
