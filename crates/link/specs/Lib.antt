pub mod Demand3
pub mod Owed
pub mod Admits
