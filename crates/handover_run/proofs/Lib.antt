mod Behind
mod Calls
mod Carried
mod Due
mod Told
mod Whole
