-- Only for the contracts of private functions: what is known of the sheet on the way.
pub mod Ready
