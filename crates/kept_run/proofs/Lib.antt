mod Histories
mod Lists
mod Opened
mod Plans
mod Ready
mod Served
pub mod Shared
mod Standing
mod Steps
mod Triggers
mod LiveRun
