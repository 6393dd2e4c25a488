pub mod Words
pub mod Asking
pub mod Journal
pub mod WhatIf
