pub mod Paged
pub mod Text
