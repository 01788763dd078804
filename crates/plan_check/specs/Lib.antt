pub mod Blocks
pub mod Breaches
pub mod Certificate
pub mod Cycles
pub mod PlanKept
pub mod PlanText
pub mod Places
