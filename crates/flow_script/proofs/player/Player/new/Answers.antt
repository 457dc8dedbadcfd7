use Rattle.std.proofs.Common.{rules, inl, inr, ◌≡◌, ◌⊎◌, Result, Ok, Err, sym, ap, subst, w64, ◌∙◌}
use Rattle.std.proofs.Math.Facts.{to_z-of_z}
use Rattle.std.proofs.lemmas.Result.{err_from_is_err_and}
use mir.Val.{to_z, of_z}
use Rattle.std.specs.Option.{option_map_or}
use Rattle.flow_law.specs.declared.config.Config.{Config}
use Rattle.flow_law.specs.declared.fault.FlowFault.{FlowFault}
use Rattle.flow_law.specs.declared.fault.FlowFault.TheVariants.{OutOfMemory}
use Rattle.flow_law.specs.declared.report.ShareFault.{ShareFault}
use Rattle.flow_law.specs.declared.report.ShareFault.TheVariants as share_fault
use Rattle.flow_law.specs.flow.SharedFlow.{NoFlow, first_state}
use Rattle.flow_law.specs.flow.StateFlow.{first_state_flow}
use Rattle.script_format.specs.Actions.{head_of_flow}
use Rattle.script_chain_format.specs.Chains.{build_of}
use Rattle.script_format.specs.Heads.{Head, state_chain}
use Rattle.script_format.specs.Heads as head
use Rattle.flow_script.specs.declared.refusal.Refusal.{Refusal}
use Rattle.flow_script.specs.declared.refusal.Refusal.TheVariants.{Flow, Sharing}
use Rattle.flow_script.specs.Answers as answer
use Rattle.flow_script.specs.Memory.{IsToldFault, IsToldFlowFault}
use Rattle.flow_script.specs.declared.player.Player.{Player as Kept}
use Rattle.flow_script.specs.Players.{MakesPlayer, MakesSharing}
use Rattle.flow_script.specs.ScriptMeaning.{player_of, shared, state}
use Rattle.flow_script.proofs.player.Player.new.Goals as goal

-- a shared flow that is refused
no-flow : (of : Head) (config : Config) (fault : FlowFault) (refused : Refusal) (result : Result Kept Refusal)
    → of ≡ head.shared_flow config → NoFlow config fault → result ≡ Err refused → refused ≡ Flow fault → MakesPlayer of result
no-flow of config fault refused result is none answered flow = subst (MakesPlayer of) (sym (answered ∙ ap Err flow)) (told none)
  where
    told : NoFlow config fault → IsToldFlowFault fault → player_of of ≡ Err (answer.refused fault)
    told (inl faulty) _ = ap player_of is ∙ ap (λ o. option_map_or (λ f. Err (answer.refused f)) o (Ok (shared (first_state config)))) faulty
    told (inr memory) is_told = absurd (subst IsToldFlowFault memory.1 is_told)

-- a sharing that is refused
no-sharing : (of : Head) (fault : ShareFault) (refused : Refusal) (result : Result Kept Refusal)
    → MakesSharing of (Err fault) → result ≡ Err refused → refused ≡ Sharing fault → MakesPlayer of result
no-sharing of fault refused result makes answered sharing = subst (MakesPlayer of) (sym (answered ∙ ap Err sharing)) (told makes)
  where
    told : (player_of of ≡ Err (answer.turn_refused fault)) ⊎ (fault ≡ share_fault.Flow OutOfMemory) → IsToldFault fault → player_of of ≡ Err (answer.turn_refused fault)
    told (inl line) _ = line
    told (inr memory) is_told = absurd (subst IsToldFault memory is_told)

pub returns-in_ok-new-in-Shared : goal.returns-in_ok-new-in-Shared
returns-in_ok-new-in-Shared c =
    let config = c.in-Shared.config in
    let made = Ok (shared (first_state config)) in (
      shared (first_state config),
      ap (λ flow. player_of (head_of_flow flow)) c.in-Shared.is ∙ ap (λ o. option_map_or (λ fault. Err (answer.refused fault)) o made) c.in_ok-new-in-Shared.ensures.0,
      c.in_ok-new-in-Shared.ensures.1,
    )

pub returns-in_err-new-in-Shared : goal.returns-in_err-new-in-Shared
returns-in_err-new-in-Shared c =
    let refused = c.from_residual in
    let given = err_from_is_err_and refused.result refused.ensures.1 in
    no-flow (head_of_flow c.args.flow) c.in-Shared.config _ given.0 refused.result (ap head_of_flow c.in-Shared.is) c.in_err-new-in-Shared.ensures given.1 given.2

pub returns-in-State : goal.returns-in-State
returns-in-State c =
    let limit = c.in-State.limit in
    let same : to_z w64 (of_z w64 c.in-State.initial) ≡ c.in-State.initial = search (rules, to_z-of_z) in (
      state (first_state_flow limit c.in-State.initial),
      ap (λ flow. player_of (head_of_flow flow)) c.in-State.is,
      subst (λ v. c.new-in-State.result ≡ first_state_flow limit v) same c.new-in-State.ensures,
    )

pub returns-in_ok-share-in-Share : goal.returns-in_ok-share-in-Share
returns-in_ok-share-in-Share c = subst (λ flow. MakesSharing (head_of_flow flow) (Ok c.in_ok-share-in-Share.field-0)) (sym c.in-Share.is) c.in_ok-share-in-Share.ensures

pub returns-in_err-share-in-Share : goal.returns-in_err-share-in-Share
returns-in_err-share-in-Share c =
    let refused = c.from_residual-in_err-share-in-Share in
    let given = err_from_is_err_and refused.result refused.ensures.1 in
    let fault = c.in_err-share-in-Share.field-0.0 in
    let makes = subst (λ flow. MakesSharing (head_of_flow flow) (Err fault)) (sym c.in-Share.is) c.in_err-share-in-Share.ensures in
    no-sharing (head_of_flow c.args.flow) fault given.0 refused.result makes given.1 given.2

pub returns-in_ok-state_in-in-StateIn : goal.returns-in_ok-state_in-in-StateIn
returns-in_ok-state_in-in-StateIn c =
    let same : to_z w64 (of_z w64 c.in-StateIn.initial) ≡ c.in-StateIn.initial = search (rules, to_z-of_z) in
    let made = subst (λ v. MakesSharing (state_chain (build_of c.in-StateIn.chain) c.in-StateIn.started v c.in-StateIn.limit) (Ok c.in_ok-state_in-in-StateIn.field-0)) same c.in_ok-state_in-in-StateIn.ensures in
    subst (λ flow. MakesSharing (head_of_flow flow) (Ok c.in_ok-state_in-in-StateIn.field-0)) (sym c.in-StateIn.is) made

pub returns-in_err-state_in-in-StateIn : goal.returns-in_err-state_in-in-StateIn
returns-in_err-state_in-in-StateIn c =
    let refused = c.from_residual-in_err-state_in-in-StateIn in
    let given = err_from_is_err_and refused.result refused.ensures.1 in
    let fault = c.in_err-state_in-in-StateIn.field-0.0 in
    let same : to_z w64 (of_z w64 c.in-StateIn.initial) ≡ c.in-StateIn.initial = search (rules, to_z-of_z) in
    let made = subst (λ v. MakesSharing (state_chain (build_of c.in-StateIn.chain) c.in-StateIn.started v c.in-StateIn.limit) (Err fault)) same c.in_err-state_in-in-StateIn.ensures in
    let makes = subst (λ flow. MakesSharing (head_of_flow flow) (Err fault)) (sym c.in-StateIn.is) made in
    no-sharing (head_of_flow c.args.flow) fault given.0 refused.result makes given.1 given.2
