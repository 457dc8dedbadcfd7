-- What a player stands for, and how it is made. No public clause cites this module.
use Rattle.std.specs.Prelude.{◌≡◌, ◌⊎◌, Result, Ok, Err}
use Rattle.flow_law.specs.flow.Standing.{StandsFor}
use Rattle.flow_cold.specs.declared.script_chain.ScriptChain.{ScriptChain}
use Rattle.flow_cold.specs.ScriptChain.{node_whole, node_rest}
use Rattle.flow_law.specs.declared.report.ShareFault.{ShareFault}
use Rattle.flow_law.specs.declared.report.ShareFault.TheVariants.{Chain, Flow}
use Rattle.flow_law.specs.declared.fault.FlowFault.TheVariants.{OutOfMemory}
use Rattle.flow_script.specs.declared.refusal.Refusal.{Refusal}
use Rattle.flow_law.specs.declared.chain.ChainFault.{ChainFault}
use Rattle.flow_turns.specs.OverCores.{StandsForEmitting}
use Rattle.flow_turns.specs.StateHub.{state_flow_of}
use Rattle.flow_script.specs.declared.player.Player.{Player}
use Rattle.flow_script.specs.declared.player.Player.TheVariants.{Shared, State, Share, StateIn}
use Rattle.script_chain_format.specs.ChainFormat.{BuiltChain}
use Rattle.script_chain_format.specs.Chains.{build_of}
use Rattle.script_format.specs.Heads.{Head}
use Rattle.flow_script.specs.Answers.{turn_refused}
use Rattle.flow_script.specs.Refusals.{IsTold, refused_answer}
use Rattle.flow_script.specs.ScriptMeaning.{player_of}
use Rattle.flow_script.specs.ScriptMeaning as player
use Rattle.flow_script.specs.Sharings.{ShowsSharing}

-- the player stands for this player of the definitions
abbrev pub ShowsPlayer : Player → player.Player → Type 0
ShowsPlayer (Shared core) (player.shared s) = StandsFor core s
ShowsPlayer (State core) (player.state s) = core ≡ s
ShowsPlayer (Share sharing) (player.share p) = ShowsSharing StandsForEmitting sharing p
ShowsPlayer (StateIn sharing) (player.state_in p) = ShowsSharing (λ hub s. state_flow_of hub ≡ s) sharing p
ShowsPlayer _ _ = ⊥

-- what was made stands for the documented sharing before its first step; a refusal is the documented one, or out of memory
abbrev pub MakesSharing : Head → Result Player ShareFault → Type 0
MakesSharing head (Ok made) = (p : player.Player) × (player_of head ≡ Ok p) × ShowsPlayer made p
MakesSharing head (Err fault) = (player_of head ≡ Err (turn_refused fault)) ⊎ (fault ≡ Flow OutOfMemory)

-- what was made stands for the documented flow before its first step; a refusal that a line reports is the documented one
abbrev pub MakesPlayer : Head → Result Player Refusal → Type 0
MakesPlayer head (Ok made) = (p : player.Player) × (player_of head ≡ Ok p) × ShowsPlayer made p
MakesPlayer head (Err refused) = IsTold refused → player_of head ≡ Err (refused_answer refused)

-- the chain that was built, from its beginning, or why it was not built
abbrev pub Rewinds : Result ScriptChain ChainFault → Result ScriptChain ShareFault → Type 0
Rewinds build (Ok chain) =
    (built : BuiltChain) × (build_of build ≡ Ok built) × (node_whole chain.node ≡ built.run) × (node_rest chain.node ≡ built.run)
Rewinds build (Err fault) = (refusal : ChainFault) × (build ≡ Err refusal) × (fault ≡ Chain refusal)
