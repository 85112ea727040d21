pub mod Notes
pub mod Numbers
pub mod Pens
pub mod Refusals
pub mod Texts
