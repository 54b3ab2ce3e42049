-- What an accepted sheet holds, read without a test (Pieces, Parts, Items, Records, Sheets), and what a filler does with it (Cursors).
pub mod Pieces
pub mod Parts
pub mod Items
pub mod Cursors
pub mod Records
pub mod Sheets
