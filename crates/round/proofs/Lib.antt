pub mod Sizes
pub mod Entered
pub mod Received
pub mod Round
pub mod Sample
