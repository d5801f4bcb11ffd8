pub mod Cursors
pub mod Blame
pub mod Readers
pub mod Lawful
pub mod Reach
