pub mod Cells
pub mod Holding
