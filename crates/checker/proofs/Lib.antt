pub mod Sums
pub mod Owed
