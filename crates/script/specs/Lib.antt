pub mod Config
pub mod Def
pub mod Entry
pub mod Glide
pub mod Host
pub mod Name
pub mod Rows
