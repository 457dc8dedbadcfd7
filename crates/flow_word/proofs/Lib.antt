pub mod Keeps
pub mod SeatSteps
pub mod Subscribing
pub mod UpdatingLemmas
pub mod Waits
