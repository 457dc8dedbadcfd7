-- Histories of flows for several threads, tokens, and what a call promises. Begin with `History` and `Promise`.
pub mod History
pub mod Lawful
pub mod Growth
pub mod RealTime
pub mod Promise
pub mod Tokens
pub mod Seats
pub mod Updates
pub mod Done
pub mod Rounds
pub mod HandleFaults
pub mod Handles
pub mod Sleeping
