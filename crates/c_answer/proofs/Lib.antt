pub mod Exporting
pub mod Consoles
