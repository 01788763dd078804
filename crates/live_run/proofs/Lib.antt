mod Asking
mod Crews
mod Cycles
mod Openings
mod Runs
mod Whole
mod Lefts
