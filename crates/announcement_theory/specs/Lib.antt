pub mod State
pub mod Tests
pub mod Views
pub mod Next
pub mod Means
pub mod Longest
pub mod Shares
pub mod Invariant
