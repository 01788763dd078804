pub mod Layout
pub mod LayoutFault
