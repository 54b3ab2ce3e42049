-- How checks come out, and what code reads and keeps on its way.
pub mod Checks
pub mod Cursors
pub mod Flags
pub mod Shapes
pub mod Sums
pub mod References
pub mod Headers
pub mod Kinds
pub mod Rests
pub mod Texts
