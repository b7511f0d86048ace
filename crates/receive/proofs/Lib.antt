pub mod Takes
pub mod Steps
pub mod Whole
pub mod Twelve
pub mod Counted
