pub mod Serving
pub mod Tables
pub mod Trays
