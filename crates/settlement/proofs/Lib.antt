pub mod Finds
pub mod Postings
pub mod Renewals
pub mod Readings
