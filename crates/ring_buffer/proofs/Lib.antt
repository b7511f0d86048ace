pub mod Blanked
pub mod Cases
pub mod Laws
pub mod Positions
pub mod Popping
