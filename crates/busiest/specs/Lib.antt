pub mod Stretch
pub mod Scan
pub mod Newest
