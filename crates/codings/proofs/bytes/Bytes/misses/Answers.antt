-- The character that the guess has is held against the one asked for.
use Rattle.codings.specs.Guesses.{missed}
use Rattle.codings.specs.Slots.{misses}
use Rattle.codings.proofs.bytes.Bytes.misses.Goals as goal

pub returns : goal.returns
unfolding misses
returns c = rw (c.turn.ensures, c.args.self.now.is) (missed _ _ c.args.self.now.fits _)
