-- A code index beside the sheet: its bytes, how they are read, and selecting by a code. (02, request 3)
pub mod Blocks
pub mod Reading
pub mod Selecting
