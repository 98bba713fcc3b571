pub mod Event
pub mod Replace
pub mod Queue
pub mod Sorted
