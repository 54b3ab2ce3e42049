-- Only for the contracts of functions below the public calls.
pub mod Checks
pub mod Read
