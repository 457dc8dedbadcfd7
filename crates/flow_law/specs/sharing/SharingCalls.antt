-- The calls of a turn of a sharing: what it asks of its hub, the flow into which it emits, and of its chain.
-- Begin with `TurnCall` and `TurnAnswer`. `CallDoes` says what a call does, by what the hub does.
use Rattle.std.specs.Prelude.{◌≡◌, ◌⊎◌, ℕ, Bool, false, Result, Ok, Err}
use Rattle.flow_law.specs.declared.fault.FlowFault.{FlowFault}
use Rattle.flow_law.specs.declared.chain.ChainFault.TheVariants.{OutOfMemory}
use Rattle.flow_law.specs.declared.chain.End.{End}
use Rattle.flow_law.specs.declared.chain.End.TheVariants.{Completed, Failed}
use Rattle.flow_law.specs.chain.ChainRun.{ChainRun, gives, pends, ends}
use Rattle.flow_law.specs.sharing.Steps.{After}

-- ---- the calls

-- the calls of the hub: count the subscribers, emit a value, poll the hub's emission, cancel it, and reset the flow
pub data HubCall (T : Type 0) : Type 0 where
  counts : HubCall T
  puts : T → HubCall T
  polls : HubCall T
  cancels : HubCall T
  resets : HubCall T

-- the type of a reply: a count; nothing for a reset; and else whether the hub's emission waits, or waited
abbrev pub HubReply : {T : Type 0} → HubCall T → Type 0
HubReply counts = ℕ
HubReply (puts x) = Bool
HubReply polls = Bool
HubReply cancels = Bool
HubReply resets = Unit {0}

-- what a hub answers to a call: its reply, or why it was refused
abbrev pub HubAnswer : {T : Type 0} → HubCall T → Type 0
HubAnswer call = Result (HubReply call) FlowFault

-- a call that a turn makes: one of the hub, an ask of the chain, or its rewind
pub data TurnCall (T : Type 0) : Type 0 where
  to_hub : HubCall T → TurnCall T
  asks : TurnCall T
  rewinds : TurnCall T

-- what a chain answers when it is asked
pub data ChainAnswer (T : Type 0) : Type 0 where
  item : T → ChainAnswer T
  pending : ChainAnswer T
  end : End → ChainAnswer T

-- what the hub or the chain answers to a call of a turn
abbrev pub TurnAnswer : {T : Type 0} → TurnCall T → Type 0
TurnAnswer (to_hub call) = HubAnswer call
TurnAnswer {T} asks = ChainAnswer T
TurnAnswer rewinds = Unit {0}

-- ---- what they do

-- a chain and a hub: what the chain gives from its beginning, what it has still to give, and the hub
pub record ChainAndHub (T H : Type 0) : Type 0 where
  pub whole : ChainRun T
  pub rest : ChainRun T
  pub hub : H

-- the same chain with another hub
abbrev pub with_hub : {T H F : Type 0} → ChainAndHub T H → F → ChainAndHub T F
with_hub both f = record { whole = both.whole; rest = both.rest; hub = f }

module _ {T : Type 0} where
  -- what a chain answers if this is left: its first entry
  abbrev pub first_answer : ChainRun T → ChainAnswer T
  first_answer (gives x r) = item x
  first_answer (pends r) = pending
  first_answer (ends e) = end e

  -- what is left after that answer
  abbrev pub rest_after : ChainRun T → ChainRun T
  rest_after (gives x r) = r
  rest_after (pends r) = r
  rest_after (ends e) = ends Completed

  -- an ask takes the first entry of what is left, or answers `OutOfMemory` in its place, which ends the chain
  abbrev pub AskDoes : ChainRun T → ChainAnswer T → ChainRun T → Type 0
  AskDoes old (item x) new = old ≡ gives x new
  AskDoes old pending new = old ≡ pends new
  AskDoes old (end Completed) new = (old ≡ ends Completed) × (new ≡ ends Completed)
  AskDoes old (end (Failed fault)) new = ((old ≡ ends (Failed fault)) ⊎ (fault ≡ OutOfMemory)) × (new ≡ ends Completed)

module _ {T H : Type 0} where
  -- what a call of a turn does; `does` says what a call of the hub does
  abbrev pub CallDoes : ((c : HubCall T) → H → HubAnswer c → H → Type 0) → (c : TurnCall T) → ChainAndHub T H → TurnAnswer c → ChainAndHub T H → Type 0
  CallDoes does (to_hub call) old answer new = does call old.hub answer new.hub × (new ≡ record old { hub = new.hub })
  CallDoes does asks old answer new = AskDoes old.rest answer new.rest × (new ≡ record old { rest = new.rest })
  CallDoes does rewinds old answer new = new ≡ record old { rest = old.whole }

  -- the answer to a call of a turn; `reply` answers the calls of the hub, and the chain never runs out of memory
  abbrev pub call_reply : ((c : HubCall T) → H → After (HubAnswer c) H) → (c : TurnCall T) → ChainAndHub T H → After (TurnAnswer c) (ChainAndHub T H)
  call_reply reply (to_hub call) both = record { result = (reply call both.hub).result; state = record both { hub = (reply call both.hub).state } }
  call_reply reply asks both = record { result = first_answer both.rest; state = record both { rest = rest_after both.rest } }
  call_reply reply rewinds both = record { result = tt; state = record both { rest = both.whole } }

-- ---- whether the hub's emission waits

-- whether the hub's emission waits after a call, by whether it waited before
abbrev pub waits_after : {T : Type 0} → (c : HubCall T) → HubAnswer c → Bool → Bool
waits_after counts answer waited = waited
waits_after (puts x) (Ok waits) waited = waits
waits_after (puts x) (Err fault) waited = waited
waits_after polls (Ok waits) waited = waits
waits_after polls (Err fault) waited = waited
waits_after cancels (Ok was_waiting) waited = false
waits_after cancels (Err fault) waited = waited
waits_after resets answer waited = waited

-- a call of the hub does what `does` says, and the hub's emission waits after it as `waits_after` says
abbrev pub HubStep : {T H : Type 0} → ((c : HubCall T) → H → HubAnswer c → H → Type 0) → (H → Bool) → (c : HubCall T) → H → HubAnswer c → H → Type 0
HubStep does waits call old answer new = does call old answer new × (waits new ≡ waits_after call answer (waits old))
