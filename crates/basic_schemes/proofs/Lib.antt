pub mod FlatFills
pub mod FlatUpdates
pub mod FlatQueries
pub mod HalvingCells
pub mod HalvingFills
pub mod HalvingUpdates
pub mod HalvingQueries
