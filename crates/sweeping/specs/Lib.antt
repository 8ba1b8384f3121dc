pub mod Generator
pub mod Digest
pub mod Soft
