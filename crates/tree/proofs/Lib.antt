pub mod Ways
pub mod Leads
