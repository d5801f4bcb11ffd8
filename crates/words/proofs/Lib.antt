pub mod Leads
pub mod Places
pub mod Around
pub mod Spaced
pub mod Left
