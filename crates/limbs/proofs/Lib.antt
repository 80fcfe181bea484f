pub mod Laws
pub mod Rows
pub mod Counting
pub mod Exponents
pub mod Shifts
