-- Laws that the functions' proofs cite.
pub mod Settings
pub mod Seen
pub mod Unfolding
pub mod Hop
pub mod One
pub mod Asked
