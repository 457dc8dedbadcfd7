-- A mutable borrow of the core of a hub.
use Rattle.std.specs.Borrow.{Lends, MutBor, Fml, RattleType}
use Rattle.std.specs.declared.alloc.Allocator.{Ghosts as Allocating}
use Rattle.flow_law.specs.declared.value.FlowValue.{Ghosts as Flowing}
use Rattle.flow_law.specs.flow.Standing.{Core}
use Rattle.flow_core.specs.contracts.shared.SharedCore.{the_row as the_core}
use Rattle.flow_turns.specs.declared.core_hub.CoreHub.{CoreHub}
use Rattle.flow_turns.specs.contracts.core_hub.CoreHub.{the_row}

module _ (T A : RattleType) (v : Flowing T.Denot) (a : Allocating A.Denot) (hub : MutBor (CoreHub T.Denot A.Denot)) where
  -- when the borrow r ends, the hub has the core that was last written through r, and is otherwise unchanged
  abbrev pub LendsCore : MutBor (Core T.Denot) → Fml
  LendsCore r = Lends (the_row T A v a) (the_core T A v a) hub r (λ core. record hub.now { core = core })
