pub mod Tables
pub mod Parts
pub mod Bits
pub mod HeaderBits
pub mod Keys
pub mod DataBits
pub mod Determined
