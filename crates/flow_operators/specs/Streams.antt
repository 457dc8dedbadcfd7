-- What a chain emits as a stream: its items, and its fault, if it fails, as the last item. `xs` is what the stream has emitted so far, and
-- `last` what it emits next.
use Rattle.std.specs.Prelude.{◌≡◌, ◌⊎◌, Bool, List, [], ◌∷◌, Option, Some, None, Result, Ok, Err}
use Rattle.futures.specs.declared.task.Poll.{Poll}
use Rattle.futures.specs.declared.task.Poll.TheVariants.{Ready, Pending}
use Rattle.flow_law.specs.declared.chain.ChainFault.{ChainFault}
use Rattle.flow_law.specs.declared.chain.ChainFault.TheVariants.{OutOfMemory}
use Rattle.flow_law.specs.declared.chain.End.TheVariants.{Completed, Failed}
use Rattle.flow_law.specs.chain.ChainRun.{ChainRun, gives, pends, ends}
use Rattle.flow_operators.specs.declared.cold.Asked.{Asked}
use Rattle.flow_operators.specs.declared.cold.Asked.TheVariants as asked
use Rattle.flow_operators.specs.declared.cold.Asked.TheVariants.{Item, End as Ended, Fault}
use Rattle.flow_operators.specs.declared.streamed.Streamed.{Streamed}
use Rattle.flow_operators.specs.Kept.{unless_ended}

module _ {T : Type 0} where
  -- the stream emits nothing more
  abbrev pub Over : List (Result T ChainFault) → Option (Result T ChainFault) → Type 0
  Over [] last = last ≡ None
  Over (y ∷ ys) last = ⊥

  -- the stream emits y, and then nothing
  abbrev pub Last : Result T ChainFault → List (Result T ChainFault) → Option (Result T ChainFault) → Type 0
  Last y [] last = last ≡ Some y
  Last y (z ∷ zs) last = (z ≡ y) × Over zs last

  -- the stream emits x, and then what k says
  abbrev pub First : T → (List (Result T ChainFault) → Option (Result T ChainFault) → Type 0) → List (Result T ChainFault) → Option (Result T ChainFault) → Type 0
  First x k [] last = last ≡ Some (Ok x)
  First x k (y ∷ ys) last = (y ≡ Ok x) × k ys last

  -- the stream emits the items of the run, and its fault as the last item; it may fail with `OutOfMemory` instead at any poll
  abbrev pub Streams : ChainRun T → List (Result T ChainFault) → Option (Result T ChainFault) → Type 0
  Streams (gives x r) xs last = First x (Streams r) xs last ⊎ Last (Err OutOfMemory) xs last
  Streams (pends r) xs last = Streams r xs last ⊎ Last (Err OutOfMemory) xs last
  Streams (ends Completed) xs last = Over xs last ⊎ Last (Err OutOfMemory) xs last
  Streams (ends (Failed fault)) xs last = Last (Err fault) xs last ⊎ Last (Err OutOfMemory) xs last

-- the chain of a stream
abbrev pub streamed_chain : {C : Type 0} → Streamed C → C
streamed_chain stream = stream.chain

-- the stream has emitted its last item
abbrev pub is_stream_over : {C : Type 0} → Streamed C → Bool
is_stream_over stream = stream.ended

-- the rest of the chain's run; nothing if the stream has emitted its last item
abbrev pub streamed_rest : {C T : Type 0} → (C → ChainRun T) → Streamed C → ChainRun T
streamed_rest rest stream = unless_ended stream.ended (rest stream.chain)

-- the chain's answer that a poll returns
abbrev pub answer_in : {T : Type 0} → Poll (Option (Result T ChainFault)) → Asked T
answer_in (Ready (Some (Ok x))) = Item x
answer_in (Ready (Some (Err fault))) = Fault fault
answer_in (Ready None) = Ended
answer_in Pending = asked.Pending

-- P of the fault, if the poll returns one as the stream's last item
abbrev pub OnFault : {T : Type 0} → Poll (Option (Result T ChainFault)) → (ChainFault → Type 0) → Type 0
OnFault (Ready (Some (Err fault))) P = P fault
OnFault polled P = Unit {0}
