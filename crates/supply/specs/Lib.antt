pub mod Refusals
pub mod Figures
pub mod Kinds
pub mod Lines
pub mod Terms
pub mod Schedule
