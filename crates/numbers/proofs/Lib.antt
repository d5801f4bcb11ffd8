pub mod Values
pub mod Decimal
