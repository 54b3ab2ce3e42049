-- What is written of a fine sheet: it is bytes, so many of them, and their sum fits its field; and what is so of a value of every kind.
pub mod Plain
pub mod Lengths
pub mod Sums
pub mod Tails
pub mod Uses
pub mod Kinds
