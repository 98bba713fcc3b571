pub mod Filling
pub mod Halves
pub mod Nan
pub mod Playing
