mod Driven
mod Kept
mod Offers
