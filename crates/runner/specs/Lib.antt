pub mod Answers
pub mod Banks
pub mod Calls
pub mod Files
pub mod Lines
pub mod Listings
pub mod Output
pub mod Room
