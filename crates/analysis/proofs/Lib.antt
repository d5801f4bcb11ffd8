pub mod Joins
pub mod Depths
pub mod Members
pub mod Sweeps
pub mod Tallies
pub mod Within
pub mod Sizes
