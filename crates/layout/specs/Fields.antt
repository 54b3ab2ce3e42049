-- Where everything stands: each place, width and fixed value of documents 01 and 02, once.
-- A field is written as it is in the document, as `+28 designation, 32`; a name with `_is` is the one value that its field may hold, in
-- a block by its kind.
use Rattle.std.specs.Prelude.{ℕ}
pub mod Passport
pub mod Descriptor
pub mod Header
pub mod Subobject
pub mod Item
pub mod Entry
pub mod Block

-- "City plans have outgrown the limit. Raise it to 67,108,864 bytes." (02, request 7)
abbrev pub limit : ℕ
limit = 67108864
