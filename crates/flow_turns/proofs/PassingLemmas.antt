-- The steps that follow a count, and the turns that they complete: a plain one (`counted-turn`), and one that observes a subscriber that
-- has left (`read-passed`, `unread-passed`).
use Rattle.std.proofs.Common.{◌≡◌, ◌<◌, ◌≤◌, ℕ, Bool, true, false, List, ◌∷◌, Result, Ok, Err, refl, sym, ap, ◌∙◌, subst}
use Rattle.flow_law.specs.declared.sharing.Started.{Started}
use Rattle.flow_law.specs.declared.sharing.Command.{Command}
use Rattle.flow_law.specs.declared.sharing.SharingObservation.{SharingObservation}
use Rattle.flow_law.specs.declared.report.Event.{Event}
use Rattle.flow_law.specs.declared.report.Report.{Report}
use Rattle.flow_law.specs.declared.report.ShareFault.{ShareFault}
use Rattle.flow_law.specs.declared.report.ShareFault.TheVariants.{Backwards}
use Rattle.flow_law.specs.chain.ChainRun.{ChainRun}
use Rattle.flow_law.specs.sharing.Sharing.{newest_command, runs_after}
use Rattle.flow_law.specs.sharing.Steps.{Takes}
use Rattle.flow_law.specs.sharing.SharingCalls.{HubCall, HubAnswer, TurnCall, TurnAnswer, ChainAndHub, counts, CallDoes, HubStep}
use Rattle.flow_law.specs.sharing.SharingTurn.{SharingState, Turned, reported, begin, after_count}
use Rattle.flow_turns.specs.declared.policy.Policy.{Policy}
use Rattle.flow_turns.specs.declared.policy.Backwards.{Backwards as Refusal}
use Rattle.flow_turns.specs.declared.sharing.Sharing.{Sharing}
use Rattle.flow_turns.specs.Passing.{TakesPassed, TakesSomePassed}
use Rattle.flow_turns.specs.Policy.{HasSeen, Observes}
use Rattle.flow_turns.specs.SharingViews.{sharing_state, sharing_chain}
use Rattle.flow_turns.specs.TurnClauses.{TakesOver}
use Rattle.flow_turns.specs.TurnParts.{Parts, sharing_parts, ActsBy, CallsHub, CommandComesTo, FollowsCount, TakesActs}
use Rattle.flow_turns.proofs.ReadLemmas.{read_parts, read-takes, fits-count, hub-takes}
use Rattle.flow_turns.proofs.StepLemmas.{same-end, counts-hub, observes-count, goes-back}

-- `acts` says what a call of a turn does to the chain and to the hub
module _ {C H T : Type 0} (acts : (c : TurnCall T) → Parts C H → TurnAnswer c → Parts C H → Type 0) (now : ℕ) where
  -- the moment is before the last one
  pub follows-backwards : (counted : Sharing C H T) (count : ℕ) (backwards : Refusal) (policy : Policy)
      → Observes counted.policy (record { moment = now; count = count }) (Err backwards) policy → policy ≡ counted.policy
      → FollowsCount acts now count counted (Err (Backwards backwards.last)) (record counted { policy = policy })
  follows-backwards counted count backwards policy observes unchanged = λ started seen stands.
      let refused = observes started seen stands in
      let stays : sharing_state (record counted { policy = policy }) ≡ sharing_state counted = ap (λ (p : Policy). sharing_state (record counted { policy = p })) unchanged in (
        seen,
        subst (λ p. HasSeen started p seen) (sym unchanged) stands,
        goes-back acts (sharing_parts counted) (sharing_parts counted) _ started now seen (sharing_state counted) count refused.0
            (same-end seen _ _ _ _ (ap (λ last. Err (Backwards last)) refused.1) stays) refl,
      )

  -- the count is observed, and the command is obeyed
  pub follows-observed : (counted : Sharing C H T) (count : ℕ) (command : Command) (policy : Policy) (outcome : Result Event ShareFault) (result : Result Report ShareFault)
      (new : Sharing C H T) → Observes counted.policy (record { moment = now; count = count }) (Ok command) policy
      → policy.running ≡ runs_after command counted.policy.running → CommandComesTo acts command (record counted { policy = policy }) outcome new
      → new.policy ≡ policy → result ≡ reported command outcome → FollowsCount acts now count counted result new
  follows-observed counted count command policy outcome result new observes runs steps after is = λ started seen stands.
      let accepted = observes started seen stands in
      let all : List SharingObservation = record { moment = now; count = count } ∷ seen in
      let last : Turned T = record { answer = reported command outcome; seen = all; state = sharing_state new } in
      let Q : Command → Type 0 = λ c. Takes acts (begin all c (sharing_state counted)) (sharing_parts counted) last (sharing_parts new) in
      let R : Turned T → Type 0 = λ r. Takes acts (begin all (newest_command started all) (sharing_state counted)) (sharing_parts counted) r (sharing_parts new) in
      let begun : Q command = steps all counted.policy.running runs in (
        all,
        subst (λ p. HasSeen started p all) (sym after) accepted.2,
        observes-count acts (sharing_parts counted) (sharing_parts new) _ started now seen (sharing_state counted) count accepted.0
            (subst R (sym (same-end all _ _ _ _ is refl)) (subst Q accepted.1 begun)),
      )

  -- a turn that observes what it has counted
  pub counted-turn : (old counted : Sharing C H T) → old.ended ≡ false → counted.policy ≡ old.policy → sharing_state counted ≡ sharing_state old
      → (count : ℕ) (result : Result Report ShareFault) (new : Sharing C H T) → CallsHub acts counts old (Ok count) counted → FollowsCount acts now count counted result new
      → TakesActs acts now old result new
  counted-turn old counted going kept same count result new told follows = λ started seen stands.
      let held : HasSeen started counted.policy seen = subst (λ p. HasSeen started p seen) (sym kept) stands in
      let after = follows started seen held in
      let P : SharingState T → Type 0 = λ s.
      Takes acts (after_count started now seen s (Ok count)) (sharing_parts counted) (record { answer = result; seen = after.0; state = sharing_state new }) (sharing_parts new) in
      (after.0, after.1, counts-hub acts _ _ _ started now seen (sharing_state old) (sharing_parts counted) (Ok count) going told (subst P same after.2))

-- `whole` and `rest` are the runs of the chain, for each of its readings; `does`, `waits` and `Came` are those of the hub
module _ {C H T R : Type 0} (reads : C → R → Type 0) (whole rest : C → R → ChainRun T) (does : (c : HubCall T) → H → HubAnswer c → H → Type 0) (waits : H → Bool)
    (Came : H → H → Type 0) (now : ℕ) (old counted new : Sharing C H T) (result : Result Report ShareFault)
    (going : old.ended ≡ false) (kept : counted.policy ≡ old.policy) (same : sharing_state counted ≡ sharing_state old)
    (told : CallsHub (ActsBy reads whole rest does waits) counts old (Ok 0) counted) (came : Came old.hub counted.hub)
    (follows : FollowsCount (ActsBy reads whole rest does waits) now 1 counted result new) where
  same_chain : counted.chain ≡ old.chain
  same_chain = ap (λ (x : Parts C H). x.chain) told.1

  -- the turn, as a reading of the chain sees it
  pub read-passed : (m : R) → reads (sharing_chain old) m → TakesPassed (λ c. whole c m) (λ c. rest c m) does waits Came now old result new
  read-passed m is = (
    going,
    (
      counted.hub,
      (told.0, came),
      λ started seen stands.
          let held : HasSeen started counted.policy seen = subst (λ p. HasSeen started p seen) (sym kept) stands in
          let after = follows started seen held in
          let last : Turned T = record { answer = result; seen = after.0; state = sharing_state new } in
          let end : ChainAndHub T H = read_parts reads whole rest does waits m (sharing_parts new) in
          let P : SharingState T → Type 0 = λ s.
          Takes (CallDoes (HubStep does waits)) (after_count started now seen s (Ok 1)) (read_parts reads whole rest does waits m (sharing_parts counted)) last end in
          let Q : C → Type 0 = λ c.
          Takes (CallDoes (HubStep does waits)) (after_count started now seen (sharing_state old) (Ok 1)) (record { whole = whole c m; rest = rest c m; hub = counted.hub }) last end in (
            after.0,
            after.1,
            subst Q same_chain (subst P same
                (read-takes reads whole rest does waits m _ (sharing_parts counted) (sharing_parts new) _ (subst (λ c. reads c m) (sym same_chain) is) after.2)),
          ),
    ),
  )

  -- the turn, whatever the chain answers
  pub unread-passed : TakesSomePassed does waits Came now old result new
  unread-passed = (
    going,
    (
      counted.hub,
      (told.0, came),
      λ started seen stands.
          let held : HasSeen started counted.policy seen = subst (λ p. HasSeen started p seen) (sym kept) stands in
          let after = follows started seen held in
          let last : Turned T = record { answer = result; seen = after.0; state = sharing_state new } in
          let P : SharingState T → Type 0 = λ s. TakesOver does waits (after_count started now seen s (Ok 1)) counted.hub last new.hub in (
            after.0,
            after.1,
            subst P same (fits-count does waits started now seen (sharing_state counted) (Ok 1) _ _ _
                (hub-takes reads whole rest does waits _ (sharing_parts counted) (sharing_parts new) _ after.2)),
          ),
    ),
  )
