pub mod Loads
pub mod Numbers
