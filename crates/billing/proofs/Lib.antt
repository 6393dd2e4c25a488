pub mod Shares
pub mod Passes
pub mod Taking
pub mod Columns
pub mod Rows
pub mod Lacking
pub mod Sheets
pub mod Made
