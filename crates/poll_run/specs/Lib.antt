pub mod Delay
pub mod PolledRun
pub mod Polling
pub mod RequestRows
pub mod Whole
