-- A text that is short enough for its field.
use mathlib.Core.Bool.{◌&&◌}
use mathlib.Core.List.{List}
use mathlib.Core.Path.{◌≡◌, sym, ap, ◌∙◌}
use Prim.Native.Nat.{ℕ, ◌<◌}
use borrow.Author.Tests.{lt-ltb}
use lib.Dec.{eqb}
use lib.ListN.{length}
use Rattle.layout.specs.Bytes.{field}
use Rattle.layout.specs.Shared.Texts.{text_of, no_zero, is_text}
use Rattle.laws.proofs.Base.Texts.{no_zero_lem}

-- a text that is short enough; n bytes stand before its first zero
pub short-text : (t : List ℕ) (width n : ℕ) → n ≡ length (text_of t) → length t < width → (place : ℕ) → eqb n (length t) ≡ is_text (field place width) t
short-text t width n e h place = ap (λ (m : ℕ). eqb m (length t)) e ∙ no_zero_lem t ∙ sym (ap (λ b. b && no_zero t) (lt-ltb (length t) width h))
