pub mod Records
pub mod Words
