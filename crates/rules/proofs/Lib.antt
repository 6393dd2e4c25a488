pub mod Books
pub mod Changes
pub mod Members
pub mod Quotients
pub mod Tables
