mod LastEvent
mod OneChoice
mod Places
mod Products
mod ReadingWish
mod WishLines
mod RowPeriods
mod TriedRows
