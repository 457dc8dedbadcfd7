-- A mutable borrow of the state core of a hub.
use Rattle.std.specs.Borrow.{Lends, MutBor, Fml, RattleType}
use Rattle.std.specs.declared.alloc.Allocator.{Ghosts as Allocating}
use Rattle.flow_law.specs.declared.value.FlowValue.{Ghosts as Flowing}
use Rattle.flow_law.specs.declared.states.StateFlowState.{StateFlowState}
use Rattle.flow_core.specs.contracts.state.StateCore.{the_row as the_core}
use Rattle.flow_turns.specs.declared.state_hub.StateHub.{StateHub}
use Rattle.flow_turns.specs.contracts.state_hub.StateHub.{the_row}

module _ (T A : RattleType) (v : Flowing T.Denot) (a : Allocating A.Denot) (hub : MutBor (StateHub T.Denot A.Denot)) where
  -- when the borrow r ends, the hub has the core that was last written through r, and is otherwise unchanged
  abbrev pub LendsStateCore : MutBor (StateFlowState T.Denot) → Fml
  LendsStateCore r = Lends (the_row T A v a) (the_core T A v a) hub r (λ core. record hub.now { core = core })
