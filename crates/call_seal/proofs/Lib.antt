pub mod Boards
pub mod Waiting
