mod Answered
mod Free
mod Rare
