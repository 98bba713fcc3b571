pub mod Board
pub mod Book
pub mod Stated
pub mod Closed
