pub mod Rate
pub mod Bits
pub mod Header
pub mod Scrambler
pub mod Data
pub mod Streaming
pub mod Texts
