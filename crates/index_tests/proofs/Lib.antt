pub mod Replaced
