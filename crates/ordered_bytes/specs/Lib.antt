pub mod Receiver
pub mod Buffer
pub mod Calls
pub mod Steps
pub mod Good
