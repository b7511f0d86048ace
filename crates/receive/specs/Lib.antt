pub mod Datagram
