pub mod Member
pub mod Find
pub mod Count
pub mod Table
pub mod Rising
pub mod Written
pub mod Lone
