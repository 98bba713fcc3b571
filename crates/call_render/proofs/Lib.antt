pub mod Freed
pub mod Events
pub mod Ends
pub mod Whole
