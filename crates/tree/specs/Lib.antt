pub mod Leads
pub mod Ways
pub mod Left
