pub mod Left
pub mod Replies
