-- Where pass 1 of the writer stands, and how its answers follow from the walks over a table.
pub mod Places
pub mod Items
pub mod Parts
pub mod Rows
pub mod Tables
pub mod Pieces
