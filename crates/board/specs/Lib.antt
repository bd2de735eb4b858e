pub mod Boards
pub mod Steps
