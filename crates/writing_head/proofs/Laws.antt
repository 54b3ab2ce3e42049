-- Laws that the functions' proofs cite.
pub mod Texts
pub mod Sofar
