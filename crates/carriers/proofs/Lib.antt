pub mod Determined
pub mod Mapping
pub mod FirstBad
pub mod Quantised
pub mod WholePart
pub mod Demapping
pub mod Refusals
pub mod Told
