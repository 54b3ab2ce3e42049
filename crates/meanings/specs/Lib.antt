-- The cases of the answers whose types stand here, each with document 01's values; what is answered is `layout`'s to say.
pub mod Settings
pub mod Coordinates
-- Only for the contracts of private functions: `layout`'s definitions in the shape of the code, which the proofs hold to the former.
pub mod Integers
pub mod Narrow
pub mod Levels
-- The eight corners as a list, and the place of the first that is no number, which proofs/Same.antt tells.
pub mod Places
