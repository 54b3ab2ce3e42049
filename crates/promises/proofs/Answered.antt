-- What `is_ok` tells of an answer: it is true where no refusal can be.
use mathlib.Core.Bool.{true}
use mathlib.Core.Path.{◌≡◌, refl}
use Rattle.std.specs.Prelude.{Result, Ok, Err, is_ok}

pub ok_of : {A E : Type 0} (r : Result A E) → ((q : E) → r ≡ Err q → ⊥) → is_ok r ≡ true
ok_of (Ok x) h = refl
ok_of (Err q) h = absurd (h q refl)
