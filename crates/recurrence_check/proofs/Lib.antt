pub mod Shared
mod Answering
mod Listed
mod Noted
mod Walking
mod Places
mod Stretched
