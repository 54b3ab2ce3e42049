-- The record table, and the writer's walk over what it is given: its checks in the order of document 01's "The record table", as 02 amends it.
-- Places are places of the sheet before the table, and indices of the table in it.
pub mod Tables
pub mod Items
pub mod Parts
pub mod Rows
pub mod Sheets
