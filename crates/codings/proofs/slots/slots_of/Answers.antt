-- That the slots fit their table is computed, coding by coding.
use mathlib.Core.Path.{refl}
use Rattle.layout.specs.Codings.Tables.{page866, page1251, koi8r}
use Rattle.layout.specs.Codings.Turning.{table_of}
use Rattle.codings.specs.Slots.{misses, fit}
use Rattle.codings.proofs.slots.slots_of.Goals as goal

pub returns-in-Dos : goal.returns-in-Dos
unfolding table_of page866 misses fit
returns-in-Dos c = rw c.in-Dos.is refl

pub returns-in-Windows : goal.returns-in-Windows
unfolding table_of page1251 misses fit
returns-in-Windows c = rw c.in-Windows.is refl

pub returns-in-Koi8 : goal.returns-in-Koi8
unfolding table_of koi8r misses fit
returns-in-Koi8 c = rw c.in-Koi8.is refl
