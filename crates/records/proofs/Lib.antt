pub mod Months
pub mod Strikes
pub mod Scans
pub mod Backs
pub mod Events
pub mod WhatIfs
