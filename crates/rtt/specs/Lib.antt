pub mod Rtt
pub mod Exact
