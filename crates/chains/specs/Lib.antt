pub mod ChainBanks
pub mod Chains
pub mod ChainLaws
