-- What is promised besides the contracts: one answer for each input. Then the laws that the proofs cite.
pub mod Once
pub mod Laws
