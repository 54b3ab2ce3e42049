-- Reference bytes that no check minds: each check in turn lets them through.
use mathlib.Core.Path.{◌≡◌, refl}
use Prim.Native.Nat.{ℕ, ◌/◌, ◌%◌, ◌≤◌, ◌<◌}
use borrow.Author.Tests.{le-leb, eq-eqb, ne_eqb}
use native.Mathlib.Omega.{arith}
use Rattle.fields.specs.Checks.{checked}
use Rattle.layout.specs.Shared.Reference.{byte20, byte21, byte22, reference_checks}
use Rattle.std.specs.Prelude.{Ok}

pub plain_passes : (b20 b21 b22 : ℕ) → b20 ≤ 5 → b21 < 8 → b21 % 2 ≡ 0 → b22 < 8 → b22 % 2 ≡ 0
    → (k l m p y : ℕ) → checked y p (reference_checks k l m (record { byte20 = b20; byte21 = b21; byte22 = b22 })) ≡ Ok tt
unfolding reference_checks byte20 byte21 byte22
plain_passes b20 b21 b22 h20 h21 e21 h22 e22 k l m p y =
    rw (
      le-leb (b20 % 16) 5 (omega arith),
      eq-eqb (b20 / 32 % 8) 0 (omega arith),
      ne_eqb (b20 / 16 % 2) 1 (λ e. omega arith),
      ne_eqb (b21 % 2) 1 (λ e. omega arith),
      ne_eqb (b21 / 8 % 2) 1 (λ e. omega arith),
      ne_eqb (b21 / 16 % 2) 1 (λ e. omega arith),
      ne_eqb (b21 / 32 % 2) 1 (λ e. omega arith),
      ne_eqb (b21 / 64 % 2) 1 (λ e. omega arith),
      ne_eqb (b21 / 128 % 2) 1 (λ e. omega arith),
      ne_eqb (b22 % 2) 1 (λ e. omega arith),
      ne_eqb (b22 / 8 % 2) 1 (λ e. omega arith),
      eq-eqb (b22 / 64 % 4) 0 (omega arith),
      ne_eqb (b22 / 16 % 2) 1 (λ e. omega arith),
    ) refl
