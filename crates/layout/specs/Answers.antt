-- What each call answers, for every input: the walk at a setting, then a record number asked for, then ROOM; and document 01's
-- numbers and values for each case of an answer.
pub mod Calls
pub mod Enums
pub mod Units
pub mod Coordinates
pub mod Corners
pub mod Values
pub mod Lent
pub mod Structs
