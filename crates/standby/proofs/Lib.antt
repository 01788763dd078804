mod Behind
mod Cores
mod Followed
mod GoingOn
mod Telling
