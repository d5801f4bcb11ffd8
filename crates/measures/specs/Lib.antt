pub mod Measures
pub mod Sizes
