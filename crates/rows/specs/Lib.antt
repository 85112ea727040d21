pub mod Rings
pub mod RowBanks
pub mod RowLaws
