pub mod StateRows
pub mod SharedRows
pub mod Judged
pub mod NextCalls
pub mod Verdicts
pub mod Cursors
