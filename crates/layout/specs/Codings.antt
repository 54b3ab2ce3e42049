-- Text of three codings as UTF-16, and back: the tables, and how a text is turned over them. (02, request 1)
pub mod Tables
pub mod Turning
