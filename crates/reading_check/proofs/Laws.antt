-- Laws that the functions' proofs cite.
pub mod Shown
pub mod Loop
pub mod Texts
pub mod Parts
pub mod Wholes
pub mod Steps
pub mod Headers
pub mod Items
pub mod Fills
pub mod Records
pub mod Sheets
