pub mod Refusals
pub mod Figures
pub mod Reconciliation
