pub mod Choices
pub mod Calls
pub mod Format
pub mod Pages
pub mod Answers
pub mod Grammar
pub mod Desks
pub mod Offices
