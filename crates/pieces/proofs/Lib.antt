pub mod Due
pub mod Carries
