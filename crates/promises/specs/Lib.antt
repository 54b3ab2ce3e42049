-- Only for the contracts of private functions, and for the theorems of proofs/.
pub mod Corners
pub mod Hands
