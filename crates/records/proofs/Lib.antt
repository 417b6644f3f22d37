pub mod Calls
pub mod Sections
