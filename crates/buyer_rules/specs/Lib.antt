pub mod Bills
pub mod Voltage
pub mod Month
