pub mod Sizes
pub mod Walks
pub mod Seeking
pub mod Updating
pub mod Turning
pub mod Betweens
pub mod Answering
pub mod Partings
