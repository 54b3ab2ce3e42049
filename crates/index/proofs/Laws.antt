-- For code: slices written piece by piece (Writing), what each entry gives (Each), one block and all of them (Blocks, Checking), the entries of an index
-- and of a sheet (Places, Hopped), the blocks that are built (Built), and the ways out of a call (Told).
pub mod Writing
pub mod Each
pub mod Blocks
pub mod Checking
pub mod Places
pub mod Hopped
pub mod Built
pub mod Told
