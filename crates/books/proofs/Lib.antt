pub mod Ids
pub mod Places
