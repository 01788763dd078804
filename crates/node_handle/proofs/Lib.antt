mod Owning
mod Parts
