-- What is promised besides the contracts: one answer for each input, stored bits, the unit of a coordinate, and items; then the laws that
-- the proofs cite.
pub mod Once
pub mod Same
pub mod Measures
pub mod Items
pub mod Laws
