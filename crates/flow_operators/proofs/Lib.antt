pub mod AskLemmas
pub mod BoundLemmas
pub mod PassingLemmas
pub mod SameChainLemmas
pub mod StoppingLemmas
pub mod StreamLemmas
pub mod TerminalLemmas
