pub mod LastWords
pub mod Copying
pub mod Replacing
pub mod Params
pub mod Whole
