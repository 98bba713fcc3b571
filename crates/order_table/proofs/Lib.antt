pub mod Answers
pub mod Lacking
pub mod Masks
pub mod Pairs
