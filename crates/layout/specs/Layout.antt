-- The layout from the other side: the bytes of a sheet, what its values must keep, and the years of what it uses.
-- That the walk reads exactly these bytes, as these values, is for the laws to prove.
pub mod Encode
pub mod Fine
pub mod Cleared
pub mod Uses
pub mod Sizes
