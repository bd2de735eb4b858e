pub mod Pace
pub mod Model
pub mod Calls
pub mod Exact
