-- Laws that the functions' proofs cite.
pub mod Measured
pub mod Emitted
pub mod Answered
