-- The codings by number, how the code reads its tables, and why each of the two ways is one. No promise to a caller cites these.
pub mod Numbers
pub mod Slots
pub mod Guesses
pub mod Ways
