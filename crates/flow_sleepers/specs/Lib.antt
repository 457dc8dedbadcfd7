pub mod Sleepers
pub mod Waiters
