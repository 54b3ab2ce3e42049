-- Where an emitter reads and writes (Cursors), what it is asked and does (Pieces), and the pieces of a record table: Parts, Records, Rows.
pub mod Cursors
pub mod Pieces
pub mod Parts
pub mod Records
pub mod Rows
