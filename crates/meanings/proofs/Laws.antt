-- Laws that the functions' proofs cite.
pub mod Settings
pub mod Integers
pub mod Signed
pub mod Floats
pub mod Places
