pub mod PositionCounts
pub mod Queue
pub mod Members
pub mod Rows
pub mod MembersLends
pub mod Subscribers
pub mod Receiving
