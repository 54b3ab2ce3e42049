-- Further cases, computed: each refusal that the reader and the writer can give, at its place, and the places past the first record,
-- part and item, which no law about readings sees; in Limits, where nothing can be computed, general statements.
pub mod Reading
pub mod Writing
pub mod Answers
pub mod Shores
pub mod Tails
pub mod Index
pub mod Hop
pub mod Limits
