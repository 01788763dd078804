pub mod Shared
mod Lists
mod Quiet
mod Running
mod Traces
mod Sooner
mod OneRecording
mod Recordings
