pub mod Stated
pub mod Board
