-- The steps of a script, as its meaning uses them: a name is its place among the names of its kind, a chain is what it gives.
use Rattle.std.specs.Prelude.{ℕ, ℤ, List, map, option_map, string_bytes}
use Rattle.script_format.specs.declared.script.FlowStep.{FlowStep}
use Rattle.script_format.specs.declared.script.Step.{Step}
use Rattle.script_format.specs.declared.script.Step.TheVariants as step
use Rattle.script_format.specs.declared.script.NamedFlow.{NamedFlow}
use Rattle.script_format.specs.declared.script.ScriptFlow.{ScriptFlow}
use Rattle.script_format.specs.declared.script.ScriptFlow.TheVariants as flow
use Rattle.script_chain_format.specs.ChainFormat.{Build}
use Rattle.script_format.specs.Heads.{Head, NamedHead, shared_flow, state_flow, shared_chain, state_chain}
use Rattle.script_chain_format.specs.Chains.{build_of}

-- a step: on a flow, a subscription with first values, or a collection
pub data Action : Type 0 where
  -- with the place of the flow
  on_flow : ℕ → FlowStep → Action
  -- with the place of the flow, and the subscriber's own first values
  subscribe_with : ℕ → List ℤ → Action
  collect : Build → Action

-- a step that was read, as the definitions have it
abbrev pub action_of : Step → Action
action_of (step.Flow flow s) = on_flow flow s
action_of (step.SubscribeWith flow first) = subscribe_with flow first.items
action_of (step.Collect build) = collect (build_of build)

-- the steps that were read, as the definitions have them
abbrev pub actions_of : List Step → List Action
actions_of steps = map action_of steps

-- a flow that was read, as the definitions have it
abbrev pub head_of_flow : ScriptFlow → Head
head_of_flow (flow.Shared config) = shared_flow config
head_of_flow (flow.State initial limit) = state_flow initial limit
head_of_flow (flow.Share chain started replay limit) = shared_chain (build_of chain) started replay limit
head_of_flow (flow.StateIn chain started initial limit) = state_chain (build_of chain) started initial limit

-- a flow that was read, with its name, as the definitions have it
abbrev pub named_head : NamedFlow → NamedHead
named_head flow = record { name = option_map string_bytes flow.name; flow = head_of_flow flow.flow }

-- the flows that were read, as the definitions have them
abbrev pub heads_of : List NamedFlow → List NamedHead
heads_of flows = map named_head flows
