-- An item by its value as a number: what its bytes are, and that an item's own value gives what the item itself does.
use Prim.Native.Nat.{ℕ, ◌%◌, ◌^◌, ◌≤◌}
use Rattle.layout.specs.Answers.Values.{value_in, semantic_value, item_of}
use Rattle.layout.specs.Bytes.{Bytes, number, bytes}
use Rattle.layout.specs.Shared.Types.{Kind, narrow, wide, long, integer, double, unknown, kind_of}
use Rattle.layout.specs.Sheet.{Item}
use Rattle.laws.proofs.Base.Numbers.{number_lt, number-low}
use Rattle.meanings.proofs.Laws.Integers.{width, integer-width, double-width}
use mathlib.Core.Path.{◌≡◌, refl, ap, ◌∙◌}
use native.Mathlib.Nat.{mod-eq_of_lt}
use native.Mathlib.Omega.{arith}

by_kind : (k : Kind) (i j : Item) → i.type ≡ j.type → i.scale ≡ j.scale → ((n : ℕ) → k ≡ integer n → number n i.value ≡ number n j.value)
    → (k ≡ double → number 8 i.value ≡ number 8 j.value) → value_in k i ≡ value_in k j
by_kind narrow i j t s f g = rw t
by_kind wide i j t s f g = rw t
by_kind long i j t s f g = rw t
by_kind (integer n) i j t s f g = rw (s, f n refl)
by_kind double i j t s f g = rw (g refl)
by_kind unknown i j t s f g = refl

-- the low n bytes of an item's own value are all of it, where its type says that it has n
own : (i : Item) (n : ℕ) → n ≤ 8 → i.type ≡ n → Bytes i.value → number n (bytes 8 (number i.type i.value)) ≡ number n i.value
own i n few e h =
    let same : number i.type i.value ≡ number n i.value = ap (λ (m : ℕ). number m i.value) e in
    number-low n 8 (number i.type i.value) few ∙ ap (λ (v : ℕ). v % 256 ^ n) same ∙ mod-eq_of_lt (number_lt n i.value h)

pub item-value : (i : Item) → Bytes i.value → semantic_value (item_of i.type i.scale (number i.type i.value)) ≡ semantic_value i
unfolding semantic_value
item-value i h =
    by_kind (kind_of i.type) (item_of i.type i.scale (number i.type i.value)) i refl refl
    (λ n e. own i n (omega (arith, integer-width i.type n e)) (width i.type n e) h)
    (λ e. own i 8 (omega arith) (double-width i.type e) h)
