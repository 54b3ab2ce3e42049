-- Laws that the functions' proofs cite.
pub mod Lists
pub mod Little
pub mod Chain
pub mod Cursors
pub mod Plain
pub mod Put
pub mod Widths
pub mod Low
pub mod Store
pub mod Kinds
