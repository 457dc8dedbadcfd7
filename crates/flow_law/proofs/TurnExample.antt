-- Turns over documented flows: a chain of two items into a shared flow without a buffer that has one slow subscriber, and into a state flow.
use Rattle.std.proofs.Common.{◌≡◌, ℕ, [], ◌∷◌, Some, None, Ok, Err, refl}
use Rattle.flow_law.specs.declared.config.Overflow.TheVariants.{Suspend}
use Rattle.flow_law.specs.declared.sharing.Started.TheVariants.{Eagerly}
use Rattle.flow_law.specs.declared.sharing.Command.TheVariants.{Start, Keep}
use Rattle.flow_law.specs.declared.report.Event.TheVariants.{Queued, Waiting, Completed}
use Rattle.flow_law.specs.declared.report.ShareFault.TheVariants.{Backwards}
use Rattle.flow_law.specs.flow.SharedFlow.{first_state}
use Rattle.flow_law.specs.flow.SharedStep.{subscribe, next}
use Rattle.flow_law.specs.flow.StateFlow.{first_state_flow}
use Rattle.flow_law.specs.chain.ChainRun.{ChainRun, list_run}
use Rattle.flow_law.specs.sharing.Steps.{After}
use Rattle.flow_law.specs.sharing.SharingCalls.{ChainAndHub}
use Rattle.flow_law.specs.sharing.SharingTurn.{Turned, at_rest}
use Rattle.flow_law.specs.sharing.SharingFlows.{EmittingFlow, shared_reply, state_reply, flow_turn}

abbrev Shared : Type 0
Shared = After (Turned ℕ) (ChainAndHub ℕ (EmittingFlow ℕ))

abbrev two : ChainRun ℕ
two = list_run (1 ∷ 2 ∷ [])

-- the first turn, over a flow with one subscriber and no buffer
abbrev first : Shared
first =
    let f = (subscribe [] (first_state (record { replay = 0; extra = 0; overflow = Suspend; limit = 100 }))).after in
    flow_turn shared_reply Eagerly 0 [] at_rest (record { whole = two; rest = two; hub = record { flow = f; waiting = None } })

abbrev later : ℕ → Shared → Shared
later now done = flow_turn shared_reply Eagerly now done.result.seen done.result.state done.state

-- the subscriber, whose number is 1, receives
abbrev receives : Shared → Shared
receives done =
    let hub = done.state.hub in record done { state = record done.state { hub = record hub { flow = (next 1 hub.flow).after } } }

waits_for_the_subscriber : (first.result.answer ≡ Ok (record { command = Start; event = Queued })) × (first.state.hub.waiting ≡ Some 2)
waits_for_the_subscriber = (refl, refl)

still_waits : (later 1 first).result.answer ≡ Ok (record { command = Keep; event = Waiting })
still_waits = refl

puts_the_next : (later 2 (receives first)).result.answer ≡ Ok (record { command = Keep; event = Queued })
puts_the_next = refl

completes : (later 3 (receives (later 2 (receives first)))).result.answer ≡ Ok (record { command = Keep; event = Completed })
completes = refl

goes_back : (later 1 (later 2 first)).result.answer ≡ Err (Backwards 2)
goes_back = refl

-- a state flow takes the first item at once
sets_the_value : (flow_turn state_reply Eagerly 0 [] at_rest (record { whole = two; rest = two; hub = record { flow = first_state_flow 100 0; initial = 0 } })).state.hub.flow.value ≡ 1
sets_the_value = refl
