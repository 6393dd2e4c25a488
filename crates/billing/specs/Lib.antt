pub mod Lines
pub mod Sharing
pub mod Weights
pub mod Bills
pub mod Lent
pub mod Giving
pub mod Filling
