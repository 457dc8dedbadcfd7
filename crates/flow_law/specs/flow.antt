-- Documented flows of one thread, and the cores that stand for them. Begin with `SharedFlow` and `EmitRule`.
pub mod SharedFlow
pub mod EmitRule
pub mod SharedStep
pub mod SharedHistory
pub mod Mailbox
pub mod StateFlow
pub mod Standing
pub mod Covering
pub mod Draining
pub mod Values
pub mod Packs
pub mod Words
