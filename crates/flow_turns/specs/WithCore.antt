-- A sharing on one thread, with another core in its hub. A subscriber's call changes only the core.
use Rattle.flow_law.specs.flow.Standing.{Core}
use Rattle.flow_law.specs.declared.states.StateFlowState.{StateFlowState}
use Rattle.flow_turns.specs.declared.core_hub.CoreHub.{CoreHub}
use Rattle.flow_turns.specs.declared.state_hub.StateHub.{StateHub}
use Rattle.flow_turns.specs.declared.sharing.Sharing.{Sharing}

module _ {C T A : Type 0} where
  -- the same sharing with this core of a shared flow
  abbrev pub with_core : Sharing C (CoreHub T A) T → Core T → Sharing C (CoreHub T A) T
  with_core sharing core = record sharing { hub = record sharing.hub { core = core } }

  -- the same sharing with this core of a state flow
  abbrev pub with_state_core : Sharing C (StateHub T A) T → StateFlowState T → Sharing C (StateHub T A) T
  with_state_core sharing core = record sharing { hub = record sharing.hub { core = core } }
