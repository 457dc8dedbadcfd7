-- What contracts see of a shared core, and the results of its calls as the replies of a history.
-- Public clauses cite the replies (`try_emit_reply` to `cache_reply`) and `case_of`; the rest is for private functions.
use Rattle.std.specs.Prelude.{◌≡◌, ℕ, ◌+◌, ◌-◌, ◌<◌, ◌≤◌, max, Bool, true, false, List, [], ◌∷◌, ◌++◌, map, length, Vec, Result, Ok, Err}
use Rattle.std.specs.List.{AllByRecursion}
use Rattle.circular_buffer.specs.Buffer.{keep_last}
use Rattle.flow_law.specs.declared.config.Config.{Config}
use Rattle.flow_law.specs.declared.config.Overflow.TheVariants.{DropOldest}
use Rattle.flow_law.specs.declared.fault.FlowFault.{FlowFault}
use Rattle.flow_law.specs.declared.fault.FlowFault.TheVariants.{OutOfMemory, Exhausted}
use Rattle.flow_law.specs.declared.fault.Refused.{Refused}
use Rattle.flow_law.specs.declared.outcome.Next.{Next}
use Rattle.flow_law.specs.declared.outcome.Emit.{Emit}
use Rattle.flow_law.specs.declared.call.SharedCall.TheVariants as call
use Rattle.flow_law.specs.declared.call.SharedReply.{SharedReply}
use Rattle.flow_law.specs.declared.call.SharedReply.TheVariants as reply
use Rattle.flow_law.specs.declared.states.SharedFlowState.{SharedFlowState}
use Rattle.flow_law.specs.flow.EmitRule as law
use Rattle.flow_law.specs.history.History.{replied}
use Rattle.flow_law.specs.flow.SharedHistory.{shared_flow}
use Rattle.flow_law.specs.flow.SharedStep.{settle}
use Rattle.flow_law.specs.laws.Laws.{RisesTo}
use Rattle.flow_law.specs.declared.states.Subscriber.{Subscriber}
use Rattle.flow_law.specs.flow.SharedFlow.{raise_to}
use Rattle.flow_law.specs.flow.Standing.{Core, StandsFor, Conforms}
use Rattle.flow_law.specs.flow.Covering.{Covers, kept_start, kept_need}
use Rattle.flow_containers.specs.Subscribers.{is_full}
use Rattle.flow_core.specs.declared.shared.SharedCore.TheInside.{Inside}
use Rattle.flow_core.specs.declared.sub_id.SubId.{SubId}
use Rattle.flow_core.specs.SubId.{number_of}
use Rattle.flow_core.specs.declared.shared.emission.EmitCase.{EmitCase}
use Rattle.flow_core.specs.declared.shared.emission.EmitCase.TheVariants.{Appends, Offers, Queues, DropsLatest, DropsOldest}

-- ---- replies

-- what `try_emit` returned, as a reply
abbrev pub try_emit_reply : {T : Type 0} → Result Bool (Refused T) → SharedReply T
try_emit_reply (Ok answer) = reply.Tested answer
try_emit_reply (Err refused) = reply.Refused refused.fault

-- what `emit` returned, as a reply
abbrev pub emit_reply : {T : Type 0} → Result Emit (Refused T) → SharedReply T
emit_reply (Ok emission) = reply.Emitted emission
emit_reply (Err refused) = reply.Refused refused.fault

-- what `subscribe` returned, as a reply: a history has only the number
abbrev pub subscribe_reply : {T : Type 0} → Result SubId FlowFault → SharedReply T
subscribe_reply = replied shared_flow (λ id. reply.Subscribed (number_of id))

-- what `next` returned, as a reply
abbrev pub next_reply : {T : Type 0} → Result (Next T) FlowFault → SharedReply T
next_reply = replied shared_flow reply.Received

-- what one `next` of the subscriber of this number does
abbrev pub SharedCoreNexts : {T : Type 0} → ℕ → Core T → Result (Next T) FlowFault → Core T → Type 0
SharedCoreNexts number old result new = Conforms old (call.TakeNext number) (next_reply result) new

-- what `replay_cache` returned, as a reply
abbrev pub cache_reply : {T A : Type 0} → Result (Vec T A) FlowFault → SharedReply T
cache_reply = replied shared_flow (λ values. reply.Cached values.items)

-- ---- cases

-- a case of the code as a case of the definitions
abbrev pub case_of : EmitCase → law.EmitCase
case_of Appends = law.appends
case_of Offers = law.offers
case_of Queues = law.queues
case_of DropsLatest = law.drops_latest
case_of DropsOldest = law.drops_oldest

-- ---- the fields

-- how many values the ring has room for
abbrev pub window_of : Config → ℕ
window_of config = max (config.replay + config.extra) 1

-- what contracts see of a core's fields
abbrev pub fields_of : {T A : Type 0} → Inside T A → Core T
fields_of c = record {
  config = c.config;
  held = c.values.items;
  appended = c.subscribers.emitted;
  newest = c.newest;
  reset_mark = c.reset_mark;
  queue = c.queue;
  subscribers = c.subscribers.list;
  issued = c.issued;
}

-- each subscriber's position is within the last `window` values and not below the floor
abbrev pub AreInWindow : {T : Type 0} → ℕ → ℕ → ℕ → List (Subscriber T) → Type 0
AreInWindow floor emitted window = AllByRecursion (λ u. (floor ≤ u.position) × (u.position ≤ emitted) × (emitted ≤ u.position + window))

-- what holds of a core's fields between two calls
pub record IsSound {T A : Type 0} (c : Inside T A) : Type 0 where
  pub window : c.subscribers.window ≡ window_of c.config
  pub capacity : c.values.capacity ≡ window_of c.config
  pub buffered : c.config.overflow ≡ DropOldest → 0 < c.config.replay + c.config.extra
  pub within : AreInWindow c.subscribers.floor c.subscribers.emitted (window_of c.config) c.subscribers.list
  pub floor : c.subscribers.floor ≤ kept_start (fields_of c)
  pub reset_mark : c.reset_mark ≤ c.subscribers.emitted
  -- the ring has every value that a present or a new subscriber may still receive
  pub enough : c.subscribers.emitted ≤ length c.values.items + kept_need (fields_of c)
  pub held : length c.values.items ≤ c.subscribers.emitted
  -- each value and each subscriber has taken one number
  pub last : c.subscribers.last ≤ c.issued
  pub numbers : c.subscribers.emitted + length c.queue ≤ c.issued
  pub issued : c.issued ≤ c.config.limit
  pub rising : RisesTo 0 (map (λ q. q.number) c.queue) c.issued

-- ---- private steps

-- by the core's fields, a subscriber is a whole window behind
abbrev pub kept_full : {T : Type 0} → Core T → Bool
kept_full core = is_full (window_of core.config) core.appended core.subscribers

-- what holds of a core in each case of an emission that appends the value
abbrev pub MayAppend : {T : Type 0} → EmitCase → Core T → Type 0
MayAppend Appends core = kept_full core ≡ false
MayAppend Offers core = kept_full core ≡ false
MayAppend DropsOldest core = (kept_full core ≡ true) × (core.config.overflow ≡ DropOldest)
MayAppend _ core = Unit {0}

-- `read` gives this result in each state that the core covers
abbrev pub CoreShows : {T R : Type 0} → Core T → (SharedFlowState T → R) → R → Type 0
CoreShows {T} core read result = (s : SharedFlowState T) → Covers core s → result ≡ read s

-- the fault is `Exhausted`, and the core has issued all its numbers
abbrev pub IsExhausted : {T : Type 0} → FlowFault → Core T → Type 0
IsExhausted fault core = (fault ≡ Exhausted) × (core.issued ≡ core.config.limit)

-- the fault is `Exhausted` if the core has issued all its numbers, else `OutOfMemory`
abbrev pub RefusedFor : {T : Type 0} → FlowFault → Core T → Type 0
RefusedFor Exhausted core = core.issued ≡ core.config.limit
RefusedFor OutOfMemory core = core.issued ≡ core.config.limit → ⊥
RefusedFor _ core = ⊥

-- in each state that the core covers, no queued value may be emitted
abbrev pub IsSettled : {T : Type 0} → Core T → Type 0
IsSettled {T} core = (s : SharedFlowState T) → Covers core s → settle s ≡ s

-- from each state that the old core covers, this step leads to one that the new core covers
abbrev pub Leads : {T : Type 0} → Core T → (SharedFlowState T → SharedFlowState T) → Core T → Type 0
Leads {T} old step new = (s : SharedFlowState T) → Covers old s → Covers new (step s)

-- from each state that the old core covers, this step leads to one that the new core stands for: it holds only the values needed there
abbrev pub CoreReaches : {T : Type 0} → Core T → (SharedFlowState T → SharedFlowState T) → Core T → Type 0
CoreReaches {T} old step new = (s : SharedFlowState T) → Covers old s → StandsFor new (step s)

-- from each state that the old core stands for, this step leads to one that the new core stands for
abbrev pub Keeps : {T : Type 0} → Core T → (SharedFlowState T → SharedFlowState T) → Core T → Type 0
Keeps {T} old step new = (s : SharedFlowState T) → StandsFor old s → StandsFor new (step s)

-- the core after a value was emitted; a full ring has dropped its oldest value
abbrev pub pushed : {T : Type 0} → T → ℕ → Core T → Core T
pushed value number core = record core {
  held = keep_last (window_of core.config) (core.held ++ value ∷ []);
  appended = core.appended + 1;
  newest = number;
}

-- the core after each subscriber that was more than a buffer behind was moved to a buffer behind
abbrev pub dropped : {T : Type 0} → Core T → Core T
dropped core = record core { subscribers = raise_to (core.appended - (core.config.replay + core.config.extra)) core.subscribers }

-- the queue is shorter, and settling leads to the same states as before
abbrev pub Admits : {T : Type 0} → Core T → Core T → Type 0
Admits {T} old new = (length new.queue < length old.queue) × ((s : SharedFlowState T) → Covers old s → (t : SharedFlowState T) × Covers new t × settle t ≡ settle s)
