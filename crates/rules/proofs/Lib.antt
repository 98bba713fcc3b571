pub mod Left
pub mod Still
pub mod RenderLaws
pub mod EventLaws
pub mod OrderLaws
pub mod FreeLaws
pub mod OutcomeLaws
pub mod WishLaws
mod Booleans
mod Clearing
mod Counting
mod Digits
mod Firsts
mod Levels
mod Limits
mod Pages
mod Pans
mod Plans
mod Questions
mod Reports
mod SilenceTable
mod Victims
