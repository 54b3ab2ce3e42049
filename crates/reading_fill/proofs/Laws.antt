-- Laws that the functions' proofs cite.
pub mod Texts
pub mod Moves
pub mod Parts
pub mod Loops
pub mod Items
pub mod Records
pub mod Values
pub mod Sheets
pub mod Laid
