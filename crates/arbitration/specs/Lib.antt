pub mod Arbitration
