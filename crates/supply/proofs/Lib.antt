pub mod Figured
pub mod Lists
pub mod Sizes
pub mod Bits
pub mod Steps
pub mod Sheet
