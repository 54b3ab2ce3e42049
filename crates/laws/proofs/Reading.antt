-- The walk over a sheet's bytes reads exactly what the layout writes.
pub mod Items
pub mod Parts
pub mod Records
pub mod Heads
pub mod Sheets
pub mod Hops
