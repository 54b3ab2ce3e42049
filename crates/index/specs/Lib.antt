-- Only for the contracts of private functions: entries as the code comes upon them, in an index and in a sheet.
pub mod Places
pub mod Hopped
