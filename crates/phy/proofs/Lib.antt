pub mod Shapes
pub mod Slices
pub mod InStep
pub mod Tells
pub mod Demodulating
pub mod Hearing
