pub mod Packing
pub mod Sending
pub mod Empty
pub mod RustPacking
pub mod PayloadBytes
pub mod Reserve
pub mod Acks
