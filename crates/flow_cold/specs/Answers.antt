-- What an `Answer`, which has two words, means.
use Rattle.std.specs.Prelude.{ℤ, Bool, true, false}
use Rattle.flow_law.specs.declared.chain.ChainFault.TheVariants as fault
use Rattle.flow_operators.specs.declared.cold.Asked.{Asked}
use Rattle.flow_operators.specs.declared.cold.Asked.TheVariants as asked
use Rattle.flow_cold.specs.declared.script_chain.answer.Answer.{Answer}
use Rattle.flow_cold.specs.declared.script_chain.answer.Answer.TheVariants.{Item, Pending, End, OutOfMemory, Overflow, NotPositive, TooDeep, Source}

-- the answer to an ask that an `Answer` means
abbrev pub asked_of : Answer → Asked ℤ
asked_of (Item x) = asked.Item x
asked_of Pending = asked.Pending
asked_of End = asked.End
asked_of OutOfMemory = asked.Fault fault.OutOfMemory
asked_of Overflow = asked.Fault fault.Overflow
asked_of NotPositive = asked.Fault fault.NotPositive
asked_of TooDeep = asked.Fault fault.TooDeep
asked_of (Source s) = asked.Fault (fault.Source s.number)

-- whether the chain is over after this answer
abbrev pub is_final : Asked ℤ → Bool
is_final (asked.Item x) = false
is_final asked.Pending = false
is_final asked.End = true
is_final (asked.Fault fault) = true
