pub mod Worlds
pub mod Making
pub mod Calls
