pub mod Packet
pub mod Datagram
pub mod Step
pub mod Sizes
