pub mod Words
pub mod Rows
pub mod InPlace
pub mod InWords
pub mod Floats
pub mod Bytes
pub mod Place
pub mod Within
pub mod Copying
pub mod FirstRow
mod Glides
pub mod Gaps
pub mod Changes
