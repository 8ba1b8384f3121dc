pub mod States
pub mod Punctured
pub mod Encoding
pub mod Interleaving
pub mod Determined
pub mod Depuncturing
pub mod Deinterleaving
