pub mod Types
pub mod Header
