-- The walk of the 2017 reader over a sheet's bytes, in the order of document 01's paragraph "Order".
-- Each piece is handed its place and the bytes from there on; the places in its checks count from its own start.
pub mod Items
pub mod Parts
pub mod Records
pub mod Sheets
pub mod Hops
