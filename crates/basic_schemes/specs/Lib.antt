pub mod FlatPlan
pub mod FlatRows
pub mod HalvingPlan
pub mod HalvingRows
pub mod FlatLayout
pub mod HalvingLayout
