-- The writer's walk takes from a record table exactly what flattening makes of a sheet.
pub mod Takes
pub mod Items
pub mod Parts
pub mod Inside
pub mod Records
pub mod Rows
pub mod Limits
pub mod Sheets
pub mod Turns
pub mod Sizes
