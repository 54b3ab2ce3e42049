-- Only for the contracts of private functions.
pub mod Found
