pub mod Totals
pub mod Fronts
pub mod Faults
pub mod Recall
pub mod Waits
pub mod Exact
pub mod Stages
