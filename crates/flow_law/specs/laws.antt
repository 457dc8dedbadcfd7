-- What the laws of flows say. Begin with `Laws`.
pub mod Laws
pub mod Waiting
pub mod Lagging
pub mod Replaying
pub mod Conflation
pub mod Current
pub mod Accepted
pub mod Closed
pub mod UpdateCounts
