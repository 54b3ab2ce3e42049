-- What is promised besides the contracts: one answer for each input, corners as stored, and the bits of elements and values; then the laws that
-- the proofs cite.
pub mod Once
pub mod Corners
pub mod Bits
pub mod Laws
