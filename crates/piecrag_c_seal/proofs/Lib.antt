pub mod Boards
pub mod Books
