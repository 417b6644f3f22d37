pub mod Faults
pub mod Rules
pub mod First
pub mod Computed
pub mod Opened
