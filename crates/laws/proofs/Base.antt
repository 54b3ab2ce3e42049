-- Laws that know nothing of sheets: lists, tests over a whole table, walks and their answers, readers, numbers, texts, rows of fields.
pub mod Lists
pub mod Every
pub mod Walks
pub mod Chains
pub mod Readers
pub mod Valued
pub mod Numbers
pub mod Parts
pub mod Texts
pub mod Rows
