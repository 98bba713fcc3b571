pub mod View
pub mod Lent
pub mod Called
pub mod Parts
