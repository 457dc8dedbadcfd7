pub mod Outcomes
pub mod Rows
pub mod Telling
pub mod Copies
pub mod Cursors
pub mod Called
