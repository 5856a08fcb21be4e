pub mod Comparisons
pub mod Months
pub mod Pages
pub mod Rates
pub mod Supply
