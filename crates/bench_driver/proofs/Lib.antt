mod Loading
mod NewBanks
