mod Driving
mod Leaving
mod ManyRounds
mod Results
mod Through
