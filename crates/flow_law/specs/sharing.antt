-- Sharings: when they run, and what a turn does. Begin with `Sharing`.
pub mod Sharing
pub mod Steps
pub mod SharingCalls
pub mod SharingTurn
pub mod TurnMeaning
pub mod SharingFlows
pub mod TurnAccount
