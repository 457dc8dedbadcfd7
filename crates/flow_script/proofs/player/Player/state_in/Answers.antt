use Rattle.std.proofs.Common.{◌≡◌, ℤ, ap, subst, ◌∙◌}
use Rattle.std.proofs.Math.Facts.{to_z-of_z}
use Rattle.flow_law.specs.declared.states.StateAndInitial.{StateAndInitial}
use Rattle.flow_law.specs.declared.states.StateFlowState.{StateFlowState}
use Rattle.flow_law.specs.flow.StateFlow.{first_state_flow}
use Rattle.flow_cold.specs.ScriptChain.{node_rest}
use Rattle.flow_turns.specs.StateHub.{state_core_of, reset_value, state_flow_of}
use Rattle.script_format.specs.Heads.{state_chain}
use Rattle.flow_script.specs.ScriptMeaning.{player_of, state_in}
use Rattle.flow_script.specs.SharingMeaning.{first_sharing}
use Rattle.flow_script.proofs.SharingLemmas.{begun, chained}
use Rattle.flow_script.proofs.player.Player.state_in.Goals as goal

pub returns : goal.returns
returns c =
    let started = c.args.started in
    let built = c.in_ok-chain.ensures.0 in
    let first = first_state_flow c.args.limit c.args.initial in
    let flow : StateAndInitial ℤ = record { flow = first; initial = c.args.initial } in
    let sharing = c.in_ok-sharing.sharing in
    let made = c.in_ok-sharing.ensures in
    let is = made.chain tt ∙ ap (λ r. chained r (node_rest c.in_ok-chain.chain.node) sharing.hub) c.in_ok-chain.ensures.2 ∙ ap (λ r. chained built.run r sharing.hub) c.in_ok-chain.ensures.3 in
    let core = subst (λ v. state_core_of sharing.hub ≡ first_state_flow c.args.limit v) (to_z-of_z c.ranges.initial) made.flow in
    let initial = subst (λ v. reset_value sharing.hub ≡ v) (to_z-of_z c.ranges.initial) made.initial in
    let shown : state_flow_of sharing.hub ≡ flow =
    ap (λ (f : StateFlowState ℤ). record { flow = f; initial = sharing.hub.initial }) core ∙ ap (λ (x : ℤ). record { flow = first; initial = x }) initial in (
      state_in (first_sharing built.run started flow),
      ap (λ b. player_of (state_chain b started c.args.initial c.args.limit)) c.in_ok-chain.ensures.1,
      begun (λ hub s. state_flow_of hub ≡ s) sharing started built.run flow made.nothing made.state is shown,
    )
