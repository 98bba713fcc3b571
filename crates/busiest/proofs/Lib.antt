pub mod Examples
pub mod Rises
pub mod SoFar
pub mod Theorem
pub mod Found
pub mod Rows
