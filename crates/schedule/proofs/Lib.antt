pub mod Figures
pub mod Lines
pub mod Marks
pub mod Steps
