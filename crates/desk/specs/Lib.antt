pub mod Performs
pub mod Standing
pub mod Tallies
pub mod Labels
