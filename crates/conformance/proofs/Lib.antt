mod Cutting
mod Replaying
