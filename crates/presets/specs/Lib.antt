pub mod Presets
pub mod Bounds
pub mod Cells
