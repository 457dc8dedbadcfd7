pub mod flow
pub mod chain
pub mod sharing
pub mod history
pub mod laws
