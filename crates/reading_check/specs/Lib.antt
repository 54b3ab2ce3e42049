-- What pass 1 counts, and how its answers follow from the walks.
pub mod Tally
pub mod Items
pub mod Records
pub mod Sheets
