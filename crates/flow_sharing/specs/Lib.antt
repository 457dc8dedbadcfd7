pub mod SeatedHub
pub mod Sender
pub mod SharedFlowHub
pub mod StateFlowHub
pub mod WordHub
pub mod OverThreads
pub mod Deriving
