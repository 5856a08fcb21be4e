pub mod Cuts
pub mod ByHand
