-- Laws that the functions' proofs cite.
pub mod Unique
pub mod Moves
pub mod Headers
pub mod Items
pub mod Parts
pub mod Records
pub mod Whole
