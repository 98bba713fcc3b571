pub mod Rows
pub mod Filled
pub mod Found
pub mod Earlier
pub mod Listed
pub mod Levels
pub mod Fading
pub mod Layouts
