-- Laws that the functions' proofs cite.
pub mod Moves
pub mod Items
pub mod Elements
pub mod Parts
pub mod Rows
pub mod Tables
pub mod Pieces
