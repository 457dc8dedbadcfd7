pub mod SubId
pub mod SharedCore
pub mod StateCore
