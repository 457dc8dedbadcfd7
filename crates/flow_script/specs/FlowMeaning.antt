-- The steps of a script on a documented flow, defined once for every kind of flow.
-- Begin with `flow_step_turn`. A `Played` has what differs between kinds: that of shared flows is in SharedMeaning, that of state flows in
-- StateMeaning.
use Rattle.std.specs.Prelude.{◌≡◌, ℕ, ℤ, Bool, true, false, List, [], Option, Some, None, option_map}
use Rattle.std.specs.Option.{option_map_or}
use Rattle.flow_law.specs.declared.fault.FlowFault.{FlowFault}
use Rattle.flow_law.specs.declared.outcome.Next.{Next}
use Rattle.flow_law.specs.declared.outcome.Next.TheVariants.{Gone}
use Rattle.flow_law.specs.history.History.{Kind}
use Rattle.flow_law.specs.history.Lawful.{number_in}
use Rattle.script_format.specs.declared.script.FlowStep.{FlowStep}
use Rattle.script_format.specs.declared.script.FlowStep.TheVariants as step
use Rattle.flow_script.specs.Answers.{Answer, waits, tested, received, subscribed, no_flow}
use Rattle.flow_script.specs.Answers as told
use Rattle.flow_script.specs.Memory.{IsToldFlowFault}
use Rattle.flow_script.specs.Numbers.{Numbers, number_at, with_emission, with_subscriber}

-- a step's answer, and the flow and what the names stand for after the step
pub record Turn (P : Type 0) : Type 0 where
  pub answer : Answer
  pub after : P
  pub numbers : Numbers

-- a turn on a part of something, as a turn on the whole
abbrev pub as_part : {P W : Type 0} → (P → W) → Turn P → Turn W
as_part whole t = record { answer = t.answer; after = whole t.after; numbers = t.numbers }

-- The answer of a step that makes no call. An emission that was done at once or refused does not wait; a refused subscription is gone
abbrev pub answer_without_call : FlowStep → Answer
answer_without_call (step.Poll place) = waits false
answer_without_call (step.Next place) = received Gone
answer_without_call (step.Cancel place) = tested false
answer_without_call (step.Unsubscribe place) = tested false
answer_without_call _ = no_flow

-- a step that makes no call, and changes nothing
abbrev pub without_call : {P : Type 0} → FlowStep → P → Numbers → Turn P
without_call step p n = record { answer = answer_without_call step; after = p; numbers = n }

-- the numbers after a step: the name that it introduces stands for this number
abbrev pub with_number : FlowStep → Option ℕ → Numbers → Numbers
with_number (step.Emit value) number n = with_emission number n
with_number step.Subscribe number n = with_subscriber number n
with_number _ number n = n

-- how scripts play on one kind of flow
pub record Played (S C R : Type 0) : Type 0 where
  pub try_emit : ℤ → C
  -- the call of a step that not every kind has, by the numbers of emissions; none if its name stands for no number
  pub own_call : FlowStep → List (Option ℕ) → Option C
  -- the documented reply, unless memory is refused
  pub reply_to : C → S → R
  pub answer : C → R → Answer

module _ {S C R : Type 0} (kind : Kind ℤ S C R) (played : Played S C R) where
  -- the state after a call, with its documented reply
  abbrev pub state_after_step : C → S → S
  state_after_step call s = kind.after s call (played.reply_to call s)

  -- the number that the reply gives to the caller: of a new subscriber or of a queued emission; none otherwise
  abbrev pub given : C → R → Option ℕ
  given call reply = option_map (λ owner. number_in owner.number) (kind.gives [] call reply)

  -- the call that a step makes; none if its name stands for no number, or if the kind of flow does not have the step
  abbrev pub call_of_step : FlowStep → Numbers → Option C
  call_of_step (step.TryEmit value) n = Some (played.try_emit value)
  call_of_step step.Subscribe n = Some (kind.subscribe [])
  call_of_step (step.Next place) n = option_map kind.take_next (number_at place n.subscribers)
  call_of_step (step.Unsubscribe place) n = option_map kind.unsubscribe (number_at place n.subscribers)
  call_of_step step.Cache n = Some kind.replay_cache
  call_of_step step.Count n = Some kind.count
  call_of_step own n = played.own_call own n.emissions

  -- a step that makes this call
  abbrev pub called : FlowStep → S → Numbers → C → Turn S
  called step s n call = record {
    answer = played.answer call (played.reply_to call s);
    after = state_after_step call s;
    numbers = with_number step (given call (played.reply_to call s)) n;
  }

  -- a step that makes this call, or none
  abbrev pub turn_by : Option C → FlowStep → S → Numbers → Turn S
  turn_by call step s n = option_map_or (called step s n) call (without_call step s n)

  -- a step on a flow
  abbrev pub flow_step_turn : FlowStep → S → Numbers → Turn S
  flow_step_turn step s n = turn_by (call_of_step step n) step s n

  -- a step that not every kind of flow has
  abbrev pub own_turn : FlowStep → S → Numbers → Turn S
  own_turn step s n = turn_by (played.own_call step n.emissions) step s n

  -- a line reports this reply, and this is its answer
  abbrev pub IsAnswer : (R → Bool) → C → R → Answer → Type 0
  IsAnswer is_told call reply answer = (is_told reply ≡ true) × (played.answer call reply ≡ answer)

  -- What holds of each kind that scripts play on. No clause except the law of a core cites this.
  pub record HasAnswers : Type 0 where
    -- whether a line reports the reply: it is not `OutOfMemory`
    pub is_told : R → Bool
    -- a reply that a line reports is the documented one
    pub documented : (s : S) (call : C) (reply : R) → kind.Replies s call reply → is_told reply ≡ true → reply ≡ played.reply_to call s
    pub tried : (value : ℤ) (test : Bool) → IsAnswer is_told (played.try_emit value) (kind.tested test) (told.tested test)
    pub welcomed : (u : ℕ) → IsAnswer is_told (kind.subscribe []) (kind.subscribed u) subscribed
    pub gets : (u : ℕ) (next : Next ℤ) → IsAnswer is_told (kind.take_next u) (kind.received next) (received next)
    pub left : (u : ℕ) (test : Bool) → IsAnswer is_told (kind.unsubscribe u) (kind.tested test) (told.tested test)
    pub cached : (values : List ℤ) → IsAnswer is_told kind.replay_cache (kind.cached values) (told.cached values)
    pub counted : (count : ℕ) → IsAnswer is_told kind.count (kind.counted count) (told.counted count)
    pub refused : (call : C) (fault : FlowFault) → IsToldFlowFault fault → IsAnswer is_told call (kind.refused fault) (told.refused fault)
    -- a subscription issues its number, and a refusal issues none
    pub gives : (u : ℕ) → given (kind.subscribe []) (kind.subscribed u) ≡ Some u
    pub refused_gives : (call : C) (fault : FlowFault) → given call (kind.refused fault) ≡ None
