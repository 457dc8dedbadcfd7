-- The steps of a turn, put together: what a sharing finds and what its calls do are the steps of the turn of flow_law.
use Rattle.std.proofs.Common.{◌≡◌, ◌≢◌, ◌<◌, ◌≤◌, ℕ, Bool, true, false, nat_lt, if◌then◌else◌, List, ◌∷◌, ◌||◌, Option, Some, None, Result, Ok, Err, refl, sym, ap, ◌∙◌, subst, arith}
use Rattle.std.proofs.lemmas.Bool.Decides.{nat_tests}
use Rattle.flow_law.specs.declared.fault.FlowFault.{FlowFault}
use Rattle.flow_law.specs.declared.fault.FlowFault.TheVariants.{OutOfMemory, TooLarge, NeedsBuffer, Exhausted, Unsupported, Busy as LockTaken}
use Rattle.flow_law.specs.declared.chain.ChainFault.{ChainFault}
use Rattle.flow_law.specs.declared.sharing.Started.{Started}
use Rattle.flow_law.specs.declared.sharing.Command.{Command}
use Rattle.flow_law.specs.declared.sharing.Command.TheVariants.{Keep}
use Rattle.flow_law.specs.declared.sharing.SharingObservation.{SharingObservation}
use Rattle.flow_law.specs.declared.report.Event.{Event}
use Rattle.flow_law.specs.declared.report.Report.{Report}
use Rattle.flow_law.specs.declared.report.ShareFault.{ShareFault}
use Rattle.flow_law.specs.declared.report.ShareFault.TheVariants.{Backwards, Ended, Chain, Flow}
use Rattle.flow_law.specs.chain.ChainRun.{ChainRun}
use Rattle.flow_law.specs.sharing.Sharing.{newest_command, last_moment, runs_after}
use Rattle.flow_law.specs.sharing.Steps.{Takes}
use Rattle.flow_law.specs.sharing.SharingCalls.{TurnCall, TurnAnswer, ChainAnswer, ChainAndHub, to_hub, asks, counts, polls, cancels, resets}
use Rattle.flow_law.specs.sharing.SharingTurn.{SharingState, Turned, refusal, reported, after_ask, put, send, after_poll, collect_while_running, after_reset, reset_if_due, after_cancel, work, begin, after_count, turn_steps}
use Rattle.flow_turns.specs.declared.policy.Policy.{Policy}
use Rattle.flow_turns.specs.declared.policy.Backwards.{Backwards as Refusal}
use Rattle.flow_turns.specs.declared.sharing.Sharing.{Sharing}
use Rattle.flow_turns.specs.Policy.{HasSeen, Observes}
use Rattle.flow_turns.specs.SharingViews.{sharing_state}
use Rattle.flow_turns.specs.TurnClauses.{OnChainFault, ended_after}
use Rattle.flow_turns.specs.TurnParts.{Parts, sharing_parts, CallsHub, CommandComesTo, TakesActs}

pub if-true : {X : Type 0} (P : X → Type 0) (b : Bool) (x y : X) → b ≡ true → P x → P (if b then x else y)
if-true P true x y is p = p
if-true P false x y is p = let e : false ≡ true = is in cc

pub if-false : {X : Type 0} (P : X → Type 0) (b : Bool) (x y : X) → b ≡ false → P y → P (if b then x else y)
if-false P false x y is p = p
if-false P true x y is p = let e : true ≡ false = is in cc

-- the same chain and hub
pub same-parts : {T H : Type 0} (whole whole' rest rest' : ChainRun T) (hub : H) → whole ≡ whole' → rest ≡ rest'
    → ◌≡◌ {A = ChainAndHub T H} (record { whole = whole; rest = rest; hub = hub }) (record { whole = whole'; rest = rest'; hub = hub })
same-parts {T} {H} whole whole' rest rest' hub w r =
    ap (λ (x : ChainRun T). record { whole = x; rest = rest; hub = hub }) w ∙ ap (λ (x : ChainRun T). record { whole = whole'; rest = x; hub = hub }) r

-- the same end of a turn
pub same-end : {T : Type 0} (seen : List SharingObservation) (a b : Result Report ShareFault) (s t : SharingState T) → a ≡ b → s ≡ t
    → ◌≡◌ {A = Turned T} (record { answer = a; seen = seen; state = s }) (record { answer = b; seen = seen; state = t })
same-end {T} seen a b s t e same =
    ap (λ x. record { answer = x; seen = seen; state = s }) e ∙ ap (λ (x : SharingState T). record { answer = b; seen = seen; state = x }) same

-- a refusal of the hub is no end of the sharing
abbrev pub Goes-on : Result Event ShareFault → Type 0
Goes-on outcome = (outcome ≢ Err Ended) × ((ended : Bool) → ended_after outcome ended ≡ ended)

refusal-goes-on : (fault : FlowFault) → Goes-on (refusal fault)
refusal-goes-on OutOfMemory = ((λ is. cc), λ ended. refl)
refusal-goes-on TooLarge = ((λ is. cc), λ ended. refl)
refusal-goes-on NeedsBuffer = ((λ is. cc), λ ended. refl)
refusal-goes-on Exhausted = ((λ is. cc), λ ended. refl)
refusal-goes-on Unsupported = ((λ is. cc), λ ended. refl)
refusal-goes-on LockTaken = ((λ is. cc), λ ended. refl)

pub event-is-no-end : (event : Event) → ◌≢◌ {A = Result Event ShareFault} (Ok event) (Err Ended)
event-is-no-end event is = cc

pub fault-is-no-end : (fault : ChainFault) → ◌≢◌ {A = Result Event ShareFault} (Err (Chain fault)) (Err Ended)
fault-is-no-end fault is = cc

pub goes-on : (outcome : Result Event ShareFault) (fault : FlowFault) → outcome ≡ refusal fault → Goes-on outcome
goes-on outcome fault is = subst Goes-on (sym is) (refusal-goes-on fault)

-- a refusal of the hub is no fault of the chain
module _ (P : ChainFault → Type 0) where
  refusal-answered : (fault : FlowFault) → OnChainFault (refusal fault) P
  refusal-answered OutOfMemory = tt
  refusal-answered TooLarge = tt
  refusal-answered NeedsBuffer = tt
  refusal-answered Exhausted = tt
  refusal-answered Unsupported = tt
  refusal-answered LockTaken = tt

  pub refused-answered : (outcome : Result Event ShareFault) (fault : FlowFault) → outcome ≡ refusal fault → OnChainFault outcome P
  refused-answered outcome fault is = subst (λ x. OnChainFault x P) (sym is) (refusal-answered fault)

  reported-answered : (command : Command) (outcome : Result Event ShareFault) → OnChainFault outcome P → OnChainFault (reported command outcome) P
  reported-answered command (Ok event) h = tt
  reported-answered command (Err (Chain fault)) h = h
  reported-answered command (Err (Flow fault)) h = tt
  reported-answered command (Err (Backwards last)) h = tt
  reported-answered command (Err Ended) h = tt

  -- a turn answers what its work came to
  pub report-answered : (command : Command) (outcome : Result Event ShareFault) (answer : Result Report ShareFault) → answer ≡ reported command outcome → OnChainFault outcome P → OnChainFault answer P
  report-answered command outcome answer is h = subst (λ x. OnChainFault x P) (sym is) (reported-answered command outcome h)

module _ {T S : Type 0} (does : (c : TurnCall T) → S → TurnAnswer c → S → Type 0) (old new : S) (r : Turned T) where
  module _ (command : Command) (seen : List SharingObservation) (s : SharingState T) where
    pub puts-kept : (x : T) → s.kept ≡ Some x → Takes does (put command seen x s) old r new → Takes does (send command seen s.kept s) old r new
    puts-kept x is h = let P : Option T → Type 0 = λ k. Takes does (send command seen k s) old r new in subst P (sym is) h

    pub asks-chain : (mid : S) (a : ChainAnswer T) → s.kept ≡ None → does asks old a mid → Takes does (after_ask command seen s a) mid r new
        → Takes does (send command seen s.kept s) old r new
    asks-chain mid a is told h = let P : Option T → Type 0 = λ k. Takes does (send command seen k s) old r new in subst P (sym is) (a, mid, told, h)

    pub polls-hub : (mid : S) (a : Result Bool FlowFault) → s.runs ≡ true → s.completed ≡ false → does (to_hub polls) old a mid → Takes does (after_poll command seen s a) mid r new
        → Takes does (collect_while_running command seen s) old r new
    polls-hub mid a runs on told h =
        if-true (λ steps. Takes does steps old r new) s.runs _ _ runs
        (if-false (λ steps. Takes does steps old r new) s.completed _ _ on (a, mid, told, h))

    pub resets-hub : (mid : S) (a : Result (Unit {0}) FlowFault) → s.reset_due ≡ true → does (to_hub resets) old a mid → Takes does (after_reset command seen s a) mid r new
        → Takes does (reset_if_due command seen s) old r new
    resets-hub mid a due told h = if-true (λ steps. Takes does steps old r new) s.reset_due _ _ due (a, mid, told, h)

    pub cancels-hub : (mid : S) (a : Result Bool FlowFault) → (s.cancel_due || s.reset_due) ≡ true → does (to_hub cancels) old a mid → Takes does (after_cancel command seen s a) mid r new
        → Takes does (work command seen s) old r new
    cancels-hub mid a due told h = if-true (λ steps. Takes does steps old r new) (s.cancel_due || s.reset_due) _ _ due (a, mid, told, h)

    pub works-on : (ran : Bool) → s.runs ≡ ran → Takes does (work command seen s) old r new → Takes does (work command seen (record s { runs = ran })) old r new
    works-on ran is h = subst (λ runs. Takes does (work command seen (record s { runs = runs })) old r new) is h

  module _ (started : Started) (now : ℕ) (seen : List SharingObservation) (s : SharingState T) where
    pub counts-hub : (mid : S) (a : Result ℕ FlowFault) → s.ended ≡ false → does (to_hub counts) old a mid → Takes does (after_count started now seen s a) mid r new
        → Takes does (turn_steps started now seen s) old r new
    counts-hub mid a going told h = if-false (λ steps. Takes does steps old r new) s.ended _ _ going (a, mid, told, h)

    pub observes-count : (count : ℕ) → last_moment seen ≤ now
        → Takes does (begin (record { moment = now; count = count } ∷ seen) (newest_command started (record { moment = now; count = count } ∷ seen)) s) old r new
        → Takes does (after_count started now seen s (Ok count)) old r new
    observes-count count le h =
        let after : nat_lt now (last_moment seen) ≡ false = grind (arith, nat_tests) in
        if-false (λ steps. Takes does steps old r new) (nat_lt now (last_moment seen)) _ _ after h

    pub goes-back : (count : ℕ) → now < last_moment seen → r ≡ record { answer = Err (Backwards (last_moment seen)); seen = seen; state = s } → new ≡ old
        → Takes does (after_count started now seen s (Ok count)) old r new
    goes-back count lt is stays =
        let back : nat_lt now (last_moment seen) ≡ true = grind (arith, nat_tests) in
        if-true (λ steps. Takes does steps old r new) (nat_lt now (last_moment seen)) _ _ back (is, stays)

-- ---- whole turns

-- `acts` says what a call of a turn does to the chain and to the hub
module _ {C H T : Type 0} (acts : (c : TurnCall T) → Parts C H → TurnAnswer c → Parts C H → Type 0) (now : ℕ) where
  -- a turn after the chain has failed
  pub ended-turn : (old : Sharing C H T) → old.ended ≡ true → TakesActs acts now old (Err Ended) old
  ended-turn old over = λ started seen stands. (
    seen,
    stands,
    if-true (λ steps. Takes acts steps (sharing_parts old) (record { answer = Err Ended; seen = seen; state = sharing_state old }) (sharing_parts old)) old.ended _ _ over (refl, refl),
  )

  module _ (old counted : Sharing C H T) (going : old.ended ≡ false) (kept : counted.policy ≡ old.policy) (same : sharing_state counted ≡ sharing_state old) where
    -- a turn whose count was refused
    pub uncounted-turn : (fault : FlowFault) (result : Result Report ShareFault) → CallsHub acts counts old (Err fault) counted → result ≡ reported Keep (refusal fault)
        → TakesActs acts now old result counted
    uncounted-turn fault result told is = λ started seen stands. (
      seen,
      subst (λ p. HasSeen started p seen) (sym kept) stands,
      counts-hub acts _ _ _ started now seen (sharing_state old) (sharing_parts counted) (Err fault) going told (same-end seen _ _ _ _ is same, refl),
    )

    -- a turn whose moment is before the last one
    pub backwards-turn : (count : ℕ) (backwards : Refusal) (policy : Policy) → CallsHub acts counts old (Ok count) counted
        → Observes counted.policy (record { moment = now; count = count }) (Err backwards) policy → policy ≡ counted.policy
        → TakesActs acts now old (Err (Backwards backwards.last)) (record counted { policy = policy })
    backwards-turn count backwards policy told observes unchanged = λ started seen stands.
        let held : HasSeen started counted.policy seen = subst (λ p. HasSeen started p seen) (sym kept) stands in
        let refused = observes started seen held in
        let stays : sharing_state (record counted { policy = policy }) ≡ sharing_state old = ap (λ (p : Policy). sharing_state (record counted { policy = p })) unchanged ∙ same in (
          seen,
          subst (λ p. HasSeen started p seen) (sym unchanged) held,
          counts-hub acts _ _ _ started now seen (sharing_state old) (sharing_parts counted) (Ok count) going told
              (goes-back acts (sharing_parts counted) (sharing_parts counted) _ started now seen (sharing_state old) count refused.0
              (same-end seen _ _ _ _ (ap (λ last. Err (Backwards last)) refused.1) stays) refl),
        )

    -- a turn that observed its count, and did what the command asks for
    pub observed-turn : (count : ℕ) (command : Command) (policy : Policy) (outcome : Result Event ShareFault) (result : Result Report ShareFault) (new : Sharing C H T)
        → CallsHub acts counts old (Ok count) counted → Observes counted.policy (record { moment = now; count = count }) (Ok command) policy
        → policy.running ≡ runs_after command counted.policy.running → CommandComesTo acts command (record counted { policy = policy }) outcome new
        → new.policy ≡ policy → result ≡ reported command outcome → TakesActs acts now old result new
    observed-turn count command policy outcome result new told observes runs steps after is = λ started seen stands.
        let held : HasSeen started counted.policy seen = subst (λ p. HasSeen started p seen) (sym kept) stands in
        let accepted = observes started seen held in
        let all : List SharingObservation = record { moment = now; count = count } ∷ seen in
        let last : Turned T = record { answer = reported command outcome; seen = all; state = sharing_state new } in
        let P : SharingState T → Type 0 = λ s. Takes acts (begin all command s) (sharing_parts counted) last (sharing_parts new) in
        let Q : Command → Type 0 = λ c. Takes acts (begin all c (sharing_state old)) (sharing_parts counted) last (sharing_parts new) in
        let R : Turned T → Type 0 = λ r. Takes acts (begin all (newest_command started all) (sharing_state old)) (sharing_parts counted) r (sharing_parts new) in
        let begun : P (sharing_state counted) = steps all counted.policy.running runs in (
          all,
          subst (λ p. HasSeen started p all) (sym after) accepted.2,
          counts-hub acts _ _ _ started now seen (sharing_state old) (sharing_parts counted) (Ok count) going told
              (observes-count acts (sharing_parts counted) (sharing_parts new) _ started now seen (sharing_state old) count accepted.0
              (subst R (sym (same-end all _ _ _ _ is refl)) (subst Q accepted.1 (subst P same begun)))),
        )
