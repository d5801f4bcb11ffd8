pub mod Answers
pub mod Totals
pub mod Charges
pub mod Costs
pub mod Steps
