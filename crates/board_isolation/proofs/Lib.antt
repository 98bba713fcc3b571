pub mod Marks
pub mod Theorem
pub mod Scenes
