pub mod Totals
pub mod Stages
pub mod Refusals
pub mod Meaning
pub mod Effects
pub mod Course
