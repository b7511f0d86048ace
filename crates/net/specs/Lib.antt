pub mod Hello
pub mod Control
