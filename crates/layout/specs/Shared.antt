-- What reading, writing and the layout share. No round trip can see a mistake here, since both ways would make it:
-- so each stands beside small cases of its own, and is to be held against the documents line by line.
pub mod Texts
pub mod Tails
pub mod Carried
pub mod Reference
pub mod Widths
pub mod Mark
pub mod Row
pub mod Types
pub mod Visibility
