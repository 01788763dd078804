pub mod Remarks
