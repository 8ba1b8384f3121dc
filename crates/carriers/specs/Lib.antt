pub mod Mapper
pub mod Fault
pub mod Values
pub mod Demapper
pub mod Received
pub mod Texts
