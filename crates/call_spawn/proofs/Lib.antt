pub mod Rooms
pub mod Placing
pub mod Stealing
pub mod Seating
pub mod Spawns
