-- What a token of any kind of flow knows after one call, and what the call cannot have replied.
use Rattle.std.proofs.Common.{◌≡◌, ◌⊎◌, IfErr, ℕ, Bool, true, List, [], ◌∷◌, ◌++◌, Option, Some, None, Result, Ok, Err, refl, sym, subst, ◌+◌}
use Rattle.flow_law.specs.declared.fault.FlowFault.{FlowFault}
use Rattle.flow_law.specs.declared.fault.FlowFault.TheVariants.{OutOfMemory, TooLarge, NeedsBuffer, Exhausted, Unsupported, Busy}
use Rattle.flow_law.specs.declared.history.HistoryEvent.{HistoryEvent}
use Rattle.flow_law.specs.declared.history.Knowledge.{Knowledge}
use Rattle.flow_law.specs.declared.history.Said.{Said}
use Rattle.flow_law.specs.declared.outcome.Next.{Next}
use Rattle.flow_law.specs.declared.outcome.Next.TheVariants.{Gone}
use Rattle.flow_law.specs.history.Growth.{event, sees, child, child_name, Fits, GrowsByOthers}
use Rattle.flow_law.specs.history.Promise.{said, AddsOne, CallsAtOnceIn}
use Rattle.flow_law.specs.history.History.{Kind, Number, Owner, subscriber, after_all, owners_all, IsHistory, replied, MaySpeak, MayCall, IsGiven, IsSubscribed, IsSubscription}
use Rattle.flow_law.specs.history.Lawful.{Lawful, Subscribing}
use Rattle.flow_law.specs.flow.Standing.{Documents, StandsForHistory}
use Rattle.flow_law.specs.history.Tokens.{NumberedToken, NextsNowIn}
use Rattle.flow_law.proofs.HistoryLemmas.{after_all-snoc, IsHistory-snoc}
use Rattle.flow_law.proofs.Owners.{history_left, legal_right, last_given, given_stays}
use Rattle.flow_law.proofs.Subscriptions.{given_grows, subscription_grows, subscription_next, subscription_given}

-- one call of a core that stands for a history
module _ {K T S C R : Type 0} (kind : Kind T S C R) (StandsAs : K → S → Type 0) where
  pub stands_next : (first : S) (x y : K) (h : List (HistoryEvent (Said C R))) (name : List ℕ) (began : ℕ) (c : C) (r : R) → StandsForHistory kind StandsAs first x h → Documents kind StandsAs x c r y → MayCall kind c name h
      → StandsForHistory kind StandsAs first y (h ++ event name began (said c r) ∷ [])
  stands_next first x y h name began c r stood documents may = let step = documents (after_all kind first h) stood.1 in (
    IsHistory-snoc kind first h (event name began (said c r)) stood.0 step.0 may,
    subst (StandsAs y) (sym (after_all-snoc kind first h (event name began (said c r)))) step.1,
  )

module _ {T S C R : Type 0} (kind : Kind T S C R) (law : Lawful kind) where
  -- a call that a token may make, it may still make after calls of others
  pub may_grows : (first : S) (c : C) (name : List ℕ) (old new : List (HistoryEvent (Said C R))) → IsHistory kind first new → GrowsByOthers name old new → MayCall kind c name old → MayCall kind c name new
  may_grows first c name old new is grown = at (kind.speaks_of c)
    where
      at : (o : Option Number) → MaySpeak kind o (owners_all kind [] old) name → MaySpeak kind o (owners_all kind [] new) name
      at None may = tt
      at (Some number) may = given_grows kind law first name number old new is grown may

  -- a call that names no number may be made
  pub may_speak_of_none : (c : C) (name : List ℕ) (h : List (HistoryEvent (Said C R))) → kind.speaks_of c ≡ None → MayCall kind c name h
  may_speak_of_none c name h none = subst (λ o. MaySpeak kind o (owners_all kind [] h) name) (sym none) tt

  pub may_speak : (c : C) (number : Number) (name : List ℕ) (h : List (HistoryEvent (Said C R))) → kind.speaks_of c ≡ Some number → IsGiven kind name number h → MayCall kind c name h
  may_speak c number name h speaks given = subst (λ o. MaySpeak kind o (owners_all kind [] h) name) (sym speaks) given

  -- a subscription that has met another token
  pub subscription_met : (first : S) (k : Knowledge (Said C R)) (u : ℕ) (h : List (HistoryEvent (Said C R))) → IsHistory kind first h → Fits h k → IsSubscription kind k u → IsSubscription kind (sees h k) u
  subscription_met first k u h is fits old = subscription_grows kind law first k.name u k.seen h is fits.0 old.0 old.1

  module _ (first : S) (before after : Knowledge (Said C R)) (c : C) (r : R) (a : AddsOne (IsHistory kind first) before c r after) where
    -- the history before the call, with what others had added
    abbrev earlier : List (HistoryEvent (Said C R))
    earlier = before.seen ++ a.grows.0

    whole : IsHistory kind first (earlier ++ event before.name a.began (said c r) ∷ [])
    whole = subst (IsHistory kind first) a.grows.1 a.history

    is_earlier : IsHistory kind first earlier
    is_earlier = history_left kind first earlier (event before.name a.began (said c r) ∷ []) whole

    -- the reply is the flow's, in the state before it
    replies : kind.Replies (after_all kind first earlier) c r
    replies = (legal_right kind first earlier (event before.name a.began (said c r) ∷ []) whole.legal).0

    -- some state in which the flow replies so
    pub replied_in : (s : S) × kind.Replies s c r
    replied_in = (after_all kind first earlier, replies)

    still : (u : ℕ) → IsSubscription kind before u → IsGiven kind before.name (subscriber u) earlier × IsSubscribed kind u earlier
    still u old = subscription_grows kind law first before.name u before.seen earlier is_earlier (a.grows.0, refl, a.grows.2) old.0 old.1

    -- the event gave a number
    pub given_by : (o : Owner) → kind.gives before.name c r ≡ Some o → IsGiven kind o.name o.number after.seen
    given_by o gives = subst (IsGiven kind o.name o.number) (sym a.grows.1) (last_given kind earlier (event before.name a.began (said c r)) o gives)

    -- a number stays the token's
    pub given_after : (number : Number) → IsGiven kind before.name number before.seen → IsGiven kind after.name number after.seen
    given_after number given =
        let now : IsGiven kind before.name number earlier = given_grows kind law first before.name number before.seen earlier is_earlier (a.grows.0, refl, a.grows.2) given in
        subst (λ (z : List ℕ × List (HistoryEvent (Said C R))). IsGiven kind z.0 number z.1) (λ i. (sym a.name i, sym a.grows.1 i))
        (given_stays kind law first earlier (event before.name a.began (said c r) ∷ []) number before.name whole.legal now)

    there : (u : ℕ) → IsSubscription kind before u → kind.HasSubscriber u (after_all kind first earlier)
    there u old = (still u old).1 first is_earlier.legal

  pub subscription_after_next : (first : S) (before after : Knowledge (Said C R)) (u : ℕ) (r : R) → AddsOne (IsHistory kind first) before (kind.take_next u) r after → IsSubscription kind before u → IsSubscription kind after u
  subscription_after_next first before after u r a old =
      let now = still first before after (kind.take_next u) r a u old in
      let grown = subscription_next kind law first before.name a.began u (earlier first before after (kind.take_next u) r a) r (whole first before after (kind.take_next u) r a) now.0 now.1 in
      subst (λ (z : List ℕ × List (HistoryEvent (Said C R))). IsGiven kind z.0 (subscriber u) z.1 × IsSubscribed kind u z.1) (λ i. (sym a.name i, sym a.grows.1 i)) grown

  -- `next` of a subscription never replies Gone
  pub never_gone : (first : S) (before after : Knowledge (Said C R)) (u : ℕ) → AddsOne (IsHistory kind first) before (kind.take_next u) (kind.received Gone) after → IsSubscription kind before u → ⊥
  never_gone first before after u a old =
      law.never_gone (after_all kind first (earlier first before after _ _ a)) u (there first before after (kind.take_next u) (kind.received Gone) a u old) (replies first before after (kind.take_next u) (kind.received Gone) a)

  -- `unsubscribe` of a subscription replies true
  pub was_there : (first : S) (before after : Knowledge (Said C R)) (u : ℕ) (answer : Bool) → AddsOne (IsHistory kind first) before (kind.unsubscribe u) (kind.tested answer) after → IsSubscription kind before u → answer ≡ true
  was_there first before after u answer a old =
      law.was_there (after_all kind first (earlier first before after _ _ a)) u answer (there first before after (kind.unsubscribe u) (kind.tested answer) a u old) (replies first before after (kind.unsubscribe u) (kind.tested answer) a)

  -- no event of a flow replies Busy
  pub busy_is_no_event : (first : S) (before after : Knowledge (Said C R)) (c : C) → AddsOne (IsHistory kind first) before c (kind.refused Busy) after → ⊥
  busy_is_no_event first before after c a = law.never_busy (after_all kind first (earlier first before after _ _ a)) c (replies first before after c (kind.refused Busy) a)

  -- why a subscriber's calls are refused
  module _ (first : S) (before after : Knowledge (Said C R)) where
    pub next_fault : (u : ℕ) (result : Result (Next T) FlowFault) → AddsOne (IsHistory kind first) before (kind.take_next u) (replied kind kind.received result) after → IfErr result (λ fault. fault ≡ OutOfMemory)
    next_fault u (Ok next) a = tt
    next_fault u (Err fault) a = let there = replied_in first before after (kind.take_next u) (kind.refused fault) a in law.next_refused there.0 u fault there.1

    pub subscribe_fault : (name : List ℕ) (fault : FlowFault) → AddsOne (IsHistory kind first) before (kind.subscribe name) (kind.refused fault) after → (fault ≡ OutOfMemory) ⊎ (fault ≡ Exhausted)
    subscribe_fault name fault a = let there = replied_in first before after (kind.subscribe name) (kind.refused fault) a in law.subscribe_refused there.0 name fault there.1

  -- the token that is made through the caller's, after the event, is the subscription's
  pub subscription_made : (subscribe : List ℕ → C) → Subscribing kind subscribe → (first : S) (before between : Knowledge (Said C R)) (u : ℕ) → AddsOne (IsHistory kind first) before (subscribe (child_name before.name (before.made + 1))) (kind.subscribed u) between
      → IsSubscription kind (child between) u
  subscription_made subscribe subscribing first before between u a =
      let name = child_name before.name (before.made + 1) in
      let given = subscription_given kind law subscribe subscribing (before.seen ++ a.grows.0) before.name name a.began u in
      subst (λ (z : List ℕ × List (HistoryEvent (Said C R))). IsGiven kind z.0 (subscriber u) z.1 × IsSubscribed kind u z.1) (λ i. (child_name (sym a.name i) (sym a.made i + 1), sym a.grows.1 i)) given

module _ {Id T S C R : Type 0} (kind : Kind T S C R) (law : Lawful kind) (first : S) (old new : NumberedToken Id (Said C R)) (subscribed : IsSubscription kind old.token.knows old.number) (number : new.number ≡ old.number) where
  pub nexts_now : (answer : Result (Next T) FlowFault) → CallsAtOnceIn kind first old.token (kind.take_next old.number) (replied kind kind.received answer) new.token → NextsNowIn kind first old answer new
  nexts_now (Ok next) called =
      ((λ e. never_gone kind law first old.token.knows new.token.knows old.number (subst (λ (z : Next T). CallsAtOnceIn kind first old.token (kind.take_next old.number) (kind.received z) new.token) e called).0.1 subscribed), number, called)
  nexts_now (Err OutOfMemory) called = (number, called)
  nexts_now (Err TooLarge) called = (number, called)
  nexts_now (Err NeedsBuffer) called = (number, called)
  nexts_now (Err Exhausted) called = (number, called)
  nexts_now (Err Unsupported) called = (number, called)
  nexts_now (Err Busy) called = absurd (busy_is_no_event kind law first old.token.knows new.token.knows (kind.take_next old.number) called.0.1)
