pub mod Rows
pub mod Key
pub mod Queue
