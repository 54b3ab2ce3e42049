-- Checks as the code makes them, and the loop over the headers.
pub mod Checks
pub mod Headers
