pub mod Products
pub mod Readings
