pub mod Fields
pub mod Types
pub mod Parts
pub mod Trip
