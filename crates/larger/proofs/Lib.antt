pub mod Choosing
pub mod Tight
