-- What each call of a hub does to its two seats, for shared flows and state flows. Begin with `shared-by-seats`, `state-by-seats` and
-- `word-by-seats`.
use Rattle.std.proofs.Common.{◌≡◌, ◌≢◌, ◌⊎◌, inl, inr, ℕ, ◌+◌, Bool, true, false, Option, Some, None, Result, Ok, Err, subst, sym, refl, ap, ◌∙◌, List, arith}
use Rattle.std.proofs.Math.Nat.{add-zero, add_assoc, add_comm}
use Rattle.flow_law.specs.declared.fault.FlowFault.{FlowFault}
use Rattle.flow_law.specs.declared.fault.FlowFault.TheVariants.{OutOfMemory, TooLarge, NeedsBuffer, Exhausted, Unsupported, Busy}
use Rattle.flow_law.specs.declared.history.Said.{Said}
use Rattle.flow_law.specs.declared.states.SharedFlowState.{SharedFlowState}
use Rattle.flow_law.specs.flow.SharedHistory.{shared_flow}
use Rattle.flow_law.specs.flow.StateFlow.{state_flow}
use Rattle.flow_law.specs.history.History.{Kind}
use Rattle.flow_law.specs.sharing.SharingCalls.{HubCall, HubAnswer, HubStep, counts, puts, polls, cancels, resets, ChainAndHub, CallDoes}
use Rattle.flow_law.specs.declared.report.Report.{Report}
use Rattle.flow_law.specs.declared.report.ShareFault.{ShareFault}
use Rattle.flow_law.specs.sharing.SharingFlows.{IsNotBusy}
use Rattle.flow_law.specs.sharing.SharingTurn.{SharingState, Turned, turn_steps}
use Rattle.flow_law.specs.sharing.Steps.{Takes}
use Rattle.flow_law.specs.declared.sharing.Started.{Started}
use Rattle.flow_law.specs.declared.sharing.SharingObservation.{SharingObservation}
use Rattle.std.specs.Result.{is_ok}
use Rattle.flow_law.specs.history.Tokens.{IsBusy, HasSeenMore}
use Rattle.flow_law.specs.history.Promise.{Token, CallsAtOnceIn}
use Rattle.flow_sharing.specs.SeatedHub.{SeatedHub, nothing_waits, OnlySends, CountDoes}
use Rattle.flow_sharing.specs.SharedFlowHub.{SharedSeats, SenderToken, PutBy, PollBy, CancelBy, ResetBy, SharedFlowHubDoes, SharedSays}
use Rattle.flow_sharing.specs.StateFlowHub.{StateSeats, StateFlowHubDoes, StateSays}
use Rattle.flow_sharing.specs.WordHub.{WordHubDoes}
use Rattle.flow_sharing.specs.OverThreads.{exchanges_lost, lost_at, lost_in, FollowsInTurn}
use Rattle.flow_sharing.proofs.SeatLemmas.{seen-here, seen-busy, seen-called}
use Rattle.flow_sharing.proofs.SendingLemmas.{Silent, SendsOne, Sends}
use Rattle.flow_sharing.proofs.TurnBySeatsLemmas.{BySeats, lost_for, lost_by, turn-by-seats}
use Rattle.flow_law.proofs.TurnLemmas.{turn-along}

-- ---- one call of a token, which lost this many exchanges

abbrev Moves : {Id E : Type 0} → Token Id E → ℕ → Token Id E → Type 0
Moves before n after = (after.knows.lost ≡ before.knows.lost + n) × HasSeenMore before after

module _ {Id E : Type 0} where
  stays : (before after : Token Id E) → after ≡ before → Moves before 0 after
  stays before after is = subst (Moves before 0) (sym is) (sym (add-zero before.knows.lost), seen-here before)

  busy : (before after : Token Id E) → IsBusy before after → Moves before 1 after
  busy before after is = (ap (λ (t : Token Id E). t.knows.lost) is, seen-busy before after is)

module _ {Id T S C R : Type 0} (kind : Kind T S C R) (first : S) where
  called : (before after : Token Id (Said C R)) (call : C) (reply : R) → CallsAtOnceIn kind first before call reply after → Moves before 0 after
  called before after call reply h = (h.1 ∙ sym (add-zero before.knows.lost), seen-called kind first before after call reply h)

-- ---- the hub, after one of its seats has made the call

module _ {Id S E I : Type 0} where
  abbrev Steps : SeatedHub Id S E I → ℕ → SeatedHub Id S E I → Type 0
  Steps h n k = (exchanges_lost k ≡ exchanges_lost h + n) × FollowsInTurn h k

  sending-steps : (h k : SeatedHub Id S E I) (n : ℕ) → OnlySends h k → Moves h.sending n k.sending → Steps h n k
  sending-steps h k n only (lost, more) = (
    ap (λ (t : Token Id E). t.knows.lost + k.sending.knows.lost) (ap (λ (x : SeatedHub Id S E I). x.watching) only)
        ∙ ap (λ m. h.watching.knows.lost + m) lost ∙ sym (add_assoc h.watching.knows.lost h.sending.knows.lost n),
    (
      ap (λ (x : SeatedHub Id S E I). x.flow) only,
      ap (λ (x : SeatedHub Id S E I). x.initial) only,
      subst (HasSeenMore h.watching) (sym (ap (λ (x : SeatedHub Id S E I). x.watching) only)) (seen-here h.watching),
      more,
    ),
  )

  watching-steps : (h k : SeatedHub Id S E I) (n : ℕ) → k ≡ record h { watching = k.watching } → Moves h.watching n k.watching → Steps h n k
  watching-steps h k n only (lost, more) = (
    ap (λ (t : Token Id E). k.watching.knows.lost + t.knows.lost) (ap (λ (x : SeatedHub Id S E I). x.sending) only)
        ∙ ap (λ m. m + h.sending.knows.lost) lost
        ∙ add_assoc h.watching.knows.lost n h.sending.knows.lost ∙ ap (λ m. h.watching.knows.lost + m) (add_comm n h.sending.knows.lost)
        ∙ sym (add_assoc h.watching.knows.lost h.sending.knows.lost n),
    (
      ap (λ (x : SeatedHub Id S E I). x.flow) only,
      ap (λ (x : SeatedHub Id S E I). x.initial) only,
      more,
      subst (HasSeenMore h.sending) (sym (ap (λ (x : SeatedHub Id S E I). x.sending) only)) (seen-here h.sending),
    ),
  )

  nothing-steps : (h k : SeatedHub Id S E I) → k ≡ h → Steps h 0 k
  nothing-steps h k is = sending-steps h k 0 (is ∙ ap (λ (x : SeatedHub Id S E I). record h { sending = x.sending; emission = x.emission }) (sym is)) (stays h.sending k.sending (ap (λ (x : SeatedHub Id S E I). x.sending) is))

module _ {Id T S C R I : Type 0} (kind : Kind T S C R) where
  count-steps : (h k : SeatedHub Id S (Said C R) I) (a : Result ℕ FlowFault) → CountDoes kind h a k → Steps h (lost_by a) k
  count-steps h k (Ok count) (does, only) = watching-steps h k 0 only (called kind h.flow.first h.watching k.watching kind.count (kind.counted count) does)
  count-steps h k (Err fault) ((is, lost), only) =
      subst (λ (f : FlowFault). Steps h (lost_for f) k) (sym is) (watching-steps h k 1 only (busy h.watching k.watching lost))

-- ---- a shared flow

module _ {Id T : Type 0} (first : SharedFlowState T) where
  put-moves : (x : T) (before after : SenderToken Id T) (a : Result Bool FlowFault) (emission : Option ℕ) → PutBy first x before a after emission → Moves before (lost_by a) after
  put-moves x before after (Ok false) emission does = called shared_flow first before after _ _ does.0
  put-moves x before after (Ok true) emission (number, does, is) = called shared_flow first before after _ _ does
  put-moves x before after (Err OutOfMemory) emission does = called shared_flow first before after _ _ does.0
  put-moves x before after (Err TooLarge) emission does = called shared_flow first before after _ _ does.0
  put-moves x before after (Err NeedsBuffer) emission does = called shared_flow first before after _ _ does.0
  put-moves x before after (Err Exhausted) emission does = called shared_flow first before after _ _ does.0
  put-moves x before after (Err Unsupported) emission does = called shared_flow first before after _ _ does.0
  put-moves x before after (Err Busy) emission does = busy before after does.0

  -- if nothing waits, the answer is false
  idle-moves : (before after : SenderToken Id T) (a : Result Bool FlowFault) → a ≡ Ok false → after ≡ before → Moves before (lost_by a) after
  idle-moves before after a none is = subst (λ (b : Result Bool FlowFault). Moves before (lost_by b) after) (sym none) (stays before after is)

  busy-moves : (before after : SenderToken Id T) (fault : FlowFault) → fault ≡ Busy → IsBusy before after → Moves before (lost_for fault) after
  busy-moves before after fault is lost = subst (λ (f : FlowFault). Moves before (lost_for f) after) (sym is) (busy before after lost)

  poll-moves : (waiting : Option ℕ) (before after : SenderToken Id T) (a : Result Bool FlowFault) (emission : Option ℕ) → PollBy first waiting before a after emission → Moves before (lost_by a) after
  poll-moves None before after a emission does = idle-moves before after a does.0 does.1
  poll-moves (Some number) before after (Ok waits) emission does = called shared_flow first before after _ _ does.0
  poll-moves (Some number) before after (Err fault) emission does = busy-moves before after fault does.0 does.1

  cancel-moves : (waiting : Option ℕ) (before after : SenderToken Id T) (a : Result Bool FlowFault) (emission : Option ℕ) → CancelBy first waiting before a after emission → Moves before (lost_by a) after
  cancel-moves None before after a emission does = idle-moves before after a does.0 does.1
  cancel-moves (Some number) before after (Ok waited) emission does = called shared_flow first before after _ _ does.0
  cancel-moves (Some number) before after (Err fault) emission does = busy-moves before after fault does.0 does.1

  reset-moves : (before after : SenderToken Id T) (a : Result (Unit {0}) FlowFault) (emission : Option ℕ) → ResetBy first before a after emission → Moves before (lost_by a) after
  reset-moves before after (Ok done) emission does = called shared_flow first before after _ _ does.0
  reset-moves before after (Err fault) emission does = busy-moves before after fault does.0 does.1

shared-steps : {Id T : Type 0} (c : HubCall T) (h k : SharedSeats Id T) (a : HubAnswer c) → SharedFlowHubDoes c h a k → Steps h (lost_by a) k
shared-steps counts h k a does = count-steps shared_flow h k a does
shared-steps (puts x) h k a does = sending-steps h k (lost_by a) does.1 (put-moves h.flow.first x h.sending k.sending a k.emission does.0)
shared-steps polls h k a does = sending-steps h k (lost_by a) does.1 (poll-moves h.flow.first h.emission h.sending k.sending a k.emission does.0)
shared-steps cancels h k a does = sending-steps h k (lost_by a) does.1 (cancel-moves h.flow.first h.emission h.sending k.sending a k.emission does.0)
shared-steps resets h k a does = sending-steps h k (lost_by a) does.1 (reset-moves h.flow.first h.sending k.sending a k.emission does.0)

shared-watches : {Id T : Type 0} (c : HubCall T) (h k : SharedSeats Id T) (a : HubAnswer c) → c ≢ counts → SharedFlowHubDoes c h a k → k.watching ≡ h.watching
shared-watches counts h k a other does = absurd (other refl)
shared-watches (puts x) h k a other does = ap (λ (s : SharedSeats _ _). s.watching) does.1
shared-watches polls h k a other does = ap (λ (s : SharedSeats _ _). s.watching) does.1
shared-watches cancels h k a other does = ap (λ (s : SharedSeats _ _). s.watching) does.1
shared-watches resets h k a other does = ap (λ (s : SharedSeats _ _). s.watching) does.1

module _ {Id T : Type 0} (first : SharedFlowState T) (h k : SharedSeats Id T) where
  put-sends : (x : T) (a : Result Bool FlowFault) (emission : Option ℕ) → PutBy first x h.sending a k.sending emission → Silent SharedSays h k ⊎ SendsOne SharedSays (puts x) h k
  put-sends x (Ok false) emission does = inr (_, refl, does.0.0.1.began, does.0.0.1.grows)
  put-sends x (Ok true) emission (number, does, is) = inr (_, refl, does.0.1.began, does.0.1.grows)
  put-sends x (Err OutOfMemory) emission does = inr (_, refl, does.0.0.1.began, does.0.0.1.grows)
  put-sends x (Err TooLarge) emission does = inr (_, refl, does.0.0.1.began, does.0.0.1.grows)
  put-sends x (Err NeedsBuffer) emission does = inr (_, refl, does.0.0.1.began, does.0.0.1.grows)
  put-sends x (Err Exhausted) emission does = inr (_, refl, does.0.0.1.began, does.0.0.1.grows)
  put-sends x (Err Unsupported) emission does = inr (_, refl, does.0.0.1.began, does.0.0.1.grows)
  put-sends x (Err Busy) emission does = inl (ap (λ (t : SenderToken Id T). t.knows.seen) does.0)

  poll-sends : (waiting : Option ℕ) (a : Result Bool FlowFault) (emission : Option ℕ) → PollBy first waiting h.sending a k.sending emission → Silent SharedSays h k ⊎ SendsOne SharedSays polls h k
  poll-sends None a emission does = inl (ap (λ (t : SenderToken Id T). t.knows.seen) does.1)
  poll-sends (Some number) (Ok waits) emission does = inr (_, (number, refl), does.0.0.1.began, does.0.0.1.grows)
  poll-sends (Some number) (Err fault) emission does = inl (ap (λ (t : SenderToken Id T). t.knows.seen) does.1)

  cancel-sends : (waiting : Option ℕ) (a : Result Bool FlowFault) (emission : Option ℕ) → CancelBy first waiting h.sending a k.sending emission → Silent SharedSays h k ⊎ SendsOne SharedSays cancels h k
  cancel-sends None a emission does = inl (ap (λ (t : SenderToken Id T). t.knows.seen) does.1)
  cancel-sends (Some number) (Ok waited) emission does = inr (_, (number, refl), does.0.0.1.began, does.0.0.1.grows)
  cancel-sends (Some number) (Err fault) emission does = inl (ap (λ (t : SenderToken Id T). t.knows.seen) does.1)

shared-sends : {Id T : Type 0} (c : HubCall T) (h k : SharedSeats Id T) (a : HubAnswer c) → SharedFlowHubDoes c h a k → Sends SharedSays c a h k
shared-sends counts h k a does = ap (λ (s : SharedSeats _ _). s.sending.knows.seen) does.1
shared-sends (puts x) h k a does = put-sends h.flow.first h k x a k.emission does.0
shared-sends polls h k a does = poll-sends h.flow.first h k h.emission a k.emission does.0
shared-sends cancels h k a does = cancel-sends h.flow.first h k h.emission a k.emission does.0
shared-sends resets h k (Ok done) does = (_, refl, does.0.0.0.1.began, does.0.0.0.1.grows)
shared-sends resets h k (Err fault) does = ap (λ (t : SenderToken _ _). t.knows.seen) does.0.1

pub shared-by-seats : (Id T : Type 0) (waits : SharedSeats Id T → Bool) → BySeats (shared_flow {T = T}) SharedSays (HubStep SharedFlowHubDoes waits)
shared-by-seats Id T waits = record {
  loses = λ c h k a told. (shared-steps c h k a told.0).0;
  counted = λ h k a told. told.0.0;
  watches = λ c h k a other told. shared-watches c h k a other told.0;
  follows = λ c h k a told. (shared-steps c h k a told.0).1;
  sends = λ c h k a told. shared-sends c h k a told.0;
}

-- ---- a state flow

state-steps : {Id T : Type 0} (c : HubCall T) (h k : StateSeats Id T) (a : HubAnswer c) → StateFlowHubDoes c h a k → Steps h (lost_by a) k
state-steps counts h k a does = count-steps state_flow h k a does
state-steps (puts x) h k (Ok waits) (none, does, only) = sending-steps h k 0 only (called state_flow h.flow.first h.sending k.sending _ _ does)
state-steps (puts x) h k (Err fault) (is, lost, only) =
    subst (λ (f : FlowFault). Steps h (lost_for f) k) (sym is) (sending-steps h k 1 only (busy h.sending k.sending lost))
state-steps polls h k a (none, is) = subst (λ (b : Result Bool FlowFault). Steps h (lost_by b) k) (sym none) (nothing-steps h k is)
state-steps cancels h k a (none, is) = subst (λ (b : Result Bool FlowFault). Steps h (lost_by b) k) (sym none) (nothing-steps h k is)
state-steps resets h k (Ok done) (does, only) = sending-steps h k 0 only (called state_flow h.flow.first h.sending k.sending _ _ does)
state-steps resets h k (Err fault) (inl (is, lost, only)) =
    subst (λ (f : FlowFault). Steps h (lost_for f) k) (sym is) (sending-steps h k 1 only (busy h.sending k.sending lost))
state-steps resets h k (Err fault) (inr (is, same)) = subst (λ (f : FlowFault). Steps h (lost_for f) k) (sym is) (nothing-steps h k same)

state-watches : {Id T : Type 0} (c : HubCall T) (h k : StateSeats Id T) (a : HubAnswer c) → c ≢ counts → StateFlowHubDoes c h a k → k.watching ≡ h.watching
state-watches counts h k a other does = absurd (other refl)
state-watches (puts x) h k (Ok waits) other does = ap (λ (s : StateSeats _ _). s.watching) does.2
state-watches (puts x) h k (Err fault) other does = ap (λ (s : StateSeats _ _). s.watching) does.2
state-watches polls h k a other does = ap (λ (s : StateSeats _ _). s.watching) does.1
state-watches cancels h k a other does = ap (λ (s : StateSeats _ _). s.watching) does.1
state-watches resets h k (Ok done) other does = ap (λ (s : StateSeats _ _). s.watching) does.1
state-watches resets h k (Err fault) other (inl (is, lost, only)) = ap (λ (s : StateSeats _ _). s.watching) only
state-watches resets h k (Err fault) other (inr (is, same)) = ap (λ (s : StateSeats _ _). s.watching) same

state-sends : {Id T : Type 0} (c : HubCall T) (h k : StateSeats Id T) (a : HubAnswer c) → StateFlowHubDoes c h a k → Sends StateSays c a h k
state-sends counts h k a does = ap (λ (s : StateSeats _ _). s.sending.knows.seen) does.1
state-sends (puts x) h k (Ok waits) (none, does, only) = inr (_, refl, does.0.1.began, does.0.1.grows)
state-sends (puts x) h k (Err fault) (is, lost, only) = inl (ap (λ (t : Token _ _). t.knows.seen) lost)
state-sends polls h k a (none, is) = inl (ap (λ (s : StateSeats _ _). s.sending.knows.seen) is)
state-sends cancels h k a (none, is) = inl (ap (λ (s : StateSeats _ _). s.sending.knows.seen) is)
state-sends resets h k (Ok done) (does, only) = (_, refl, does.0.1.began, does.0.1.grows)
state-sends resets h k (Err fault) (inl (is, lost, only)) = ap (λ (t : Token _ _). t.knows.seen) lost
state-sends resets h k (Err fault) (inr (is, same)) = ap (λ (s : StateSeats _ _). s.sending.knows.seen) same

pub state-by-seats : (Id T : Type 0) → BySeats (state_flow {T = T}) StateSays (HubStep (StateFlowHubDoes {Id = Id}) nothing_waits)
state-by-seats Id T = record {
  loses = λ c h k a told. (state-steps c h k a told.0).0;
  counted = λ h k a told. told.0.0;
  watches = λ c h k a other told. state-watches c h k a other told.0;
  follows = λ c h k a told. (state-steps c h k a told.0).1;
  sends = λ c h k a told. state-sends c h k a told.0;
}

-- ---- a state flow without a lock

none-lost : {X : Type 0} (a : Result X FlowFault) → is_ok a ≡ true → lost_by a ≡ 0
none-lost (Ok x) is = refl
none-lost (Err fault) is = absurd (cc)

pub word-by-seats : (Id T : Type 0) → BySeats (state_flow {T = T}) StateSays (HubStep (WordHubDoes {Id = Id}) nothing_waits)
word-by-seats Id T = record {
  loses = λ c h k a told. (state-steps c h k a told.0.1).0;
  counted = λ h k a told. told.0.1.0;
  watches = λ c h k a other told. state-watches c h k a other told.0.1;
  follows = λ c h k a told. (state-steps c h k a told.0.1).1;
  sends = λ c h k a told. state-sends c h k a told.0.1;
}

-- an answer that lost nothing is not Busy
not-busy : (answer : Result Report ShareFault) → lost_in answer ≡ 0 → IsNotBusy answer
not-busy (Ok report) none = λ is.
    let zero : lost_at report.event ≡ 0 = none in
    let one : lost_at report.event ≡ 1 = ap lost_at is in
    absurd (omega arith)
not-busy (Err fault) none = tt

module _ {Id T : Type 0} (started : Started) (now : ℕ) (seen : List SharingObservation) (s : SharingState T) (old new : ChainAndHub T (StateSeats Id T)) (turned : Turned T) where
  -- no call of it loses an exchange
  keeps-count : (c : HubCall T) (h k : StateSeats Id T) (a : HubAnswer c) (f : Unit {0}) → exchanges_lost h ≡ exchanges_lost old.hub → HubStep WordHubDoes nothing_waits c h a k
      → (g : Unit {0}) × (exchanges_lost k ≡ exchanges_lost old.hub) × Unit {0}
  keeps-count c h k a f same told = (
    tt,
    (state-steps c h k a told.0.1).0 ∙ ap (λ n. exchanges_lost h + n) (none-lost a told.0.0) ∙ add-zero (exchanges_lost h) ∙ same,
    tt,
  )

  pub word-not-busy : Takes (CallDoes (HubStep WordHubDoes nothing_waits)) (turn_steps started now seen s) old turned new → IsNotBusy turned.answer
  word-not-busy takes =
      let same : exchanges_lost new.hub ≡ exchanges_lost old.hub = (turn-along (HubStep WordHubDoes nothing_waits) (λ c f a g. Unit {0}) (λ h f. exchanges_lost h ≡ exchanges_lost old.hub) keeps-count (turn_steps started now seen s) old new tt turned refl takes).1 in
      let lost : exchanges_lost new.hub ≡ exchanges_lost old.hub + lost_in turned.answer = (turn-by-seats state_flow StateSays _ (word-by-seats Id T) started now seen s old new turned takes).lost in
      not-busy turned.answer (omega arith)
