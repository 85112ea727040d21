mod Alike
mod Choosing
mod Counting
mod Headers
mod Insides
mod Known
mod Mapped
pub mod Lengths
mod Numbered
mod Posts
mod Progressing
mod Stopping
