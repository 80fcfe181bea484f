pub mod Written
pub mod Low
pub mod Point
pub mod Nines
pub mod Texts
pub mod Puts
pub mod Values
