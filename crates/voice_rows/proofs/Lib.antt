pub mod Filling
pub mod Made
pub mod Records
pub mod Words
pub mod Reading
pub mod Picked
pub mod First
pub mod Down
