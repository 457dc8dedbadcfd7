-- From one poll of a send future to what its whole run gives.
use Rattle.std.proofs.Common.{◌≡◌, Option, Some, sym, subst, ◌∙◌}
use Rattle.futures.specs.declared.task.Poll.TheVariants.{Ready, Pending}
use Rattle.flow_law.specs.declared.states.SharedFlowState.{SharedFlowState}
use Rattle.flow_gate.specs.Tokens.{GateOrigin}
use Rattle.flow_shared.specs.declared.emit_future.EmitStage.{EmitStage}
use Rattle.flow_shared.specs.declared.emit_future.Sent.{Sent}
use Rattle.flow_shared.specs.Futures.{OneEach}
use Rattle.flow_shared.specs.EmitFutures.{Emitting, emitting_at, EmitPolls, FutureSends, SaysSent, held_by_emit, sent_token}
use Rattle.flow_shared.specs.SendFutures.{SendGiven, GivesSend, SendsOnce, sent_by}
use Rattle.flow_shared.proofs.EmitRuns.{sends_same}

module _ {T A : Type 0} where
  -- the emit future of one poll is of the emission that the send future had
  pub same_emission : (e s : Emitting T A) (flow : GateOrigin (SharedFlowState T)) (stage : EmitStage T A) → e ≡ emitting_at flow stage → flow ≡ s.flow → stage ≡ s.stage → e ≡ s
  same_emission e s flow stage is of at = is ∙ (λ i. emitting_at (of i) (at i))

  pub sends_one : (e s : Emitting T A) (given : SendGiven T) (x : Sent T A) (new : Option (Emitting T A)) → e ≡ s → sent_by given ≡ x → OneEach SaysSent e.flow (held_by_emit e.stage) (Ready x) (Some (sent_token x)) → SendsOnce (Some s) (Ready given) new
  sends_one e s given x new same is one =
      let ours = subst (λ f. OneEach SaysSent f.flow (held_by_emit f.stage) (Ready x) (Some (sent_token x))) same one in
      subst (λ y. OneEach SaysSent s.flow (held_by_emit s.stage) (Ready y) (Some (sent_token y))) (sym is) ours

  pub sends_later : (e s : Emitting T A) (flow : GateOrigin (SharedFlowState T)) (stage : EmitStage T A) → e ≡ s → flow ≡ s.flow → EmitPolls e.flow e.stage Pending stage → (x : SendGiven T) → GivesSend (Some (emitting_at flow stage)) x → GivesSend (Some s) x
  sends_later e s flow stage same of polls x gives =
      let ours = subst (λ f. EmitPolls f.flow f.stage Pending stage) same polls in
      (gives.0 ∙ of, sends_same s.flow s.stage stage ours (sent_by x) (subst (λ f. FutureSends f stage (sent_by x)) of gives.1))
