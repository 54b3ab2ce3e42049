-- What is promised besides the contract: one answer for each input; then the laws that the proofs cite.
pub mod Once
pub mod Laws
