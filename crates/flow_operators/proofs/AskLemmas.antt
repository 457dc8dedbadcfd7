-- How an ask shortens the rest of a run.
use Rattle.std.proofs.Common.{◌<◌, inl, inr, ap, arith}
use Rattle.flow_law.specs.chain.ChainRun.{ChainRun, entries, asks}
use Rattle.flow_law.proofs.ChainLemmas.{asks_entries}
use Rattle.flow_operators.specs.declared.cold.Asked.{Asked}
use Rattle.flow_operators.specs.declared.cold.Asked.TheVariants.{Item, Pending, End, Fault}
use Rattle.flow_operators.specs.Asking.{AskGives, IsItem, LawAsksLeft}

pub asks-item : {T : Type 0} (before after : ChainRun T) (asked : Asked T) → AskGives before asked after → IsItem asked → asks after < asks before
asks-item before after (Item x) gives is = rw gives (omega arith)
asks-item before after Pending gives is = absurd is
asks-item before after End gives is = absurd is
asks-item before after (Fault fault) gives is = absurd is

pub asks-left : {T : Type 0} → LawAsksLeft T
asks-left before after (Item x) is = (asks_entries before, (λ any. (ap asks is, ap entries is)), λ final. absurd final)
asks-left before after Pending is = (asks_entries before, (λ any. (ap asks is, ap entries is)), λ final. absurd final)
asks-left before after End (is, over) = (asks_entries before, (λ other. absurd (other tt)), λ final. (ap asks over, inl (ap asks is)))
asks-left before after (Fault fault) (inl is, over) = (asks_entries before, (λ other. absurd (other tt)), λ final. (ap asks over, inl (ap asks is)))
asks-left before after (Fault fault) (inr lacks, over) = (asks_entries before, (λ other. absurd (other tt)), λ final. (ap asks over, inr (ap (λ f. Fault f) lacks)))
