-- What is promised of hopping. (02, request 5: "That number is the hit's number plus one, or the record count if there is none. On an accepted sheet
-- the answer equals the one from the full reading. On other bytes it says only what the headers passed so far say. Refusals: 1, 2, 3 and 10 as for
-- sheet size, identifiers and total lengths, header by header; contents and sum aren't checked.")
pub mod Looked
pub mod Reads
pub mod First
pub mod Only
pub mod Refusals
pub mod Within
pub mod Says
