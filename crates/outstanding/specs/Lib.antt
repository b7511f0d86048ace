pub mod Outstanding
pub mod Steps
