pub mod Plan
pub mod Table
pub mod Calls
pub mod Blocks
pub mod Exponent
