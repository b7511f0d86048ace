pub mod Alone
pub mod Step
pub mod Walk
pub mod Index
pub mod Trip
