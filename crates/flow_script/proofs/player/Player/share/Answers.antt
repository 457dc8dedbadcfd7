use Rattle.std.proofs.Common.{ℤ, Ok, Err, None, ap, ◌∙◌}
use Rattle.std.specs.Option.{option_map_or}
use Rattle.flow_law.specs.flow.SharedFlow.{first_state}
use Rattle.flow_law.specs.sharing.SharingTurn.{SharingState}
use Rattle.flow_law.specs.declared.states.EmittingFlow.{EmittingFlow}
use Rattle.flow_cold.specs.ScriptChain.{node_rest}
use Rattle.flow_law.specs.declared.report.ShareFault.TheVariants.{Flow}
use Rattle.flow_turns.specs.ShareIn.{share_config}
use Rattle.flow_turns.specs.CoreHub.{hub_emission}
use Rattle.flow_turns.specs.OverCores.{StandsForEmitting}
use Rattle.script_format.specs.Heads.{shared_chain}
use Rattle.flow_script.specs.Answers.{turn_refused}
use Rattle.flow_script.specs.ScriptMeaning.{player_of, share}
use Rattle.flow_script.specs.SharingMeaning.{first_sharing}
use Rattle.flow_script.proofs.SharingLemmas.{begun, chained, none-waits}
use Rattle.flow_script.proofs.player.Player.share.Goals as goal

pub returns : goal.returns
returns c =
    let started = c.args.started in
    let built = c.in_ok-chain.ensures.0 in
    let flow : EmittingFlow ℤ = record { flow = first_state (share_config c.args.replay c.args.limit); waiting = None } in
    let sharing = c.in_ok-sharing.sharing in
    let made = c.in_ok-sharing.ensures in
    let is = made.chain tt ∙ ap (λ r. chained r (node_rest c.in_ok-chain.chain.node) sharing.hub) c.in_ok-chain.ensures.2 ∙ ap (λ r. chained built.run r sharing.hub) c.in_ok-chain.ensures.3 in
    let play = first_sharing built.run started flow in
    let waits = none-waits (hub_emission sharing.hub) (made.quiet tt (ap (λ (z : SharingState _). z.runs) made.state) (ap (λ (z : SharingState _). z.cancel_due) made.state)) in (
      share play,
      ap (λ b. player_of (shared_chain b started c.args.replay c.args.limit)) c.in_ok-chain.ensures.1
          ∙ ap (λ o. option_map_or (λ fault. Err (turn_refused (Flow fault))) o (Ok (share play))) made.flow.0,
      begun StandsForEmitting sharing started built.run flow made.nothing made.state is (made.flow.1, waits),
    )
