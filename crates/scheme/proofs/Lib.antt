pub mod Writes
pub mod Covering
pub mod Standing
pub mod Drawing
pub mod Changes
pub mod Exponents
