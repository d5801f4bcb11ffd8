pub mod Keywords
pub mod Literals
pub mod Reasons
pub mod Lines
pub mod Shown
pub mod Laws
pub mod Worked
