-- The loop that puts what is turned, one by one (Loops), and a text in which each byte has a character (Every).
pub mod Every
pub mod Loops
