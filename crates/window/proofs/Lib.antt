pub mod Rises
pub mod Loops
pub mod Members
pub mod Kept
pub mod Calls
