pub mod Numbers
pub mod Fields
pub mod Lawful
pub mod Parts
pub mod Reading
