mod Balances
mod FirstRun
mod ByHand
mod Whole
mod CutBills
mod Joined
mod Agree
mod Conserve
mod Bounds
mod Order
mod Recover
pub mod Theorem
