-- The code's table is the definition's: they are one list, coding by coding.
use Rattle.layout.specs.Codings.Tables.{page866, page1251, koi8r}
use Rattle.layout.specs.Codings.Turning.{table_of}
use Rattle.codings.proofs.tables.table_of.Goals as goal

pub returns-in-Dos : goal.returns-in-Dos
unfolding table_of page866
returns-in-Dos c = rw c.in-Dos.is

pub returns-in-Windows : goal.returns-in-Windows
unfolding table_of page1251
returns-in-Windows c = rw c.in-Windows.is

pub returns-in-Koi8 : goal.returns-in-Koi8
unfolding table_of koi8r
returns-in-Koi8 c = rw c.in-Koi8.is
