pub mod Coder
pub mod Puncturing
pub mod Periods
pub mod Depuncturing
pub mod Encoding
pub mod Interleaver
pub mod Texts
