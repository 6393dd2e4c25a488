pub mod Runs
pub mod History
pub mod Limits
pub mod Laws
pub mod Entries
pub mod Serving
pub mod Playing
pub mod Sample
