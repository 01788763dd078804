mod Calling
mod Cutting
