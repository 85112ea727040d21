mod Moves
mod Shifts
mod Steps
