pub mod Signed
pub mod Laws
pub mod Exact
pub mod Consequences
