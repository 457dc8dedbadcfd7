-- What a caller that borrows a flow can conclude, from the laws of flows.
use Rattle.std.proofs.Common.{inl, inr, ◌⊎◌, Result, Ok, ◌≡◌, ◌≢◌, ℕ, ◌+◌, ◌≤◌, List, [], ◌∷◌, ◌++◌, length, drop, Option, Some, None, refl, sym, ap, ◌∙◌, subst}
use Rattle.std.specs.List.{slice_get}
use Rattle.std.specs.Option.{option_map_or}
use Rattle.std.proofs.lemmas.List.{drop_all, append-nil}
use Rattle.flow_law.specs.declared.fault.FlowFault.{FlowFault}
use Rattle.flow_law.specs.declared.history.HistoryEvent.{HistoryEvent}
use Rattle.flow_law.specs.declared.history.Knowledge.{Knowledge}
use Rattle.flow_law.specs.declared.history.Said.{Said}
use Rattle.flow_law.specs.declared.outcome.Next.{Next}
use Rattle.flow_law.specs.declared.outcome.Next.TheVariants.{Value, Empty, Gone}
use Rattle.flow_law.specs.declared.states.SharedFlowState.{SharedFlowState}
use Rattle.flow_law.specs.declared.states.StateFlowState.{StateFlowState}
use Rattle.flow_law.specs.declared.call.SharedCall.{SharedCall}
use Rattle.flow_law.specs.declared.call.SharedCall.TheVariants as call
use Rattle.flow_law.specs.declared.call.SharedReply.{SharedReply}
use Rattle.flow_law.specs.declared.call.SharedReply.TheVariants as reply
use Rattle.flow_law.specs.declared.call.StateCall.{StateCall}
use Rattle.flow_law.specs.declared.call.StateCall.TheVariants.{GetValue}
use Rattle.flow_law.specs.declared.call.StateReply.{StateReply}
use Rattle.flow_law.specs.declared.call.StateReply.TheVariants.{Got}
use Rattle.flow_law.specs.laws.Conflation.{Beside, beside, follows, Agrees, AgreeAll, Conflates}
use Rattle.flow_law.specs.history.Growth.{event}
use Rattle.flow_law.specs.history.History.{IsHistory}
use Rattle.flow_law.specs.laws.Lagging.{IsSubsequence, Lags}
use Rattle.flow_law.specs.laws.Laws.{Delivers}
use Rattle.flow_law.specs.declared.config.Config.{Config}
use Rattle.flow_law.specs.flow.Mailbox.{taken, own, box, received}
use Rattle.flow_law.specs.history.Promise.{said, AddsOne, CallsAtOnceIn}
use Rattle.flow_law.specs.flow.SharedFlow.{Replied, answer, values, cache, position_of, own_of}
use Rattle.flow_law.specs.flow.SharedHistory.{History, Replies, after, shared_after_all, state_after, reply_by, shared_flow}
use Rattle.flow_law.specs.flow.SharedStep.{settle, advance, read, next_from, next}
use Rattle.flow_law.specs.flow.StateFlow.{StateHistory, IsStateHistory, state_flow}
use Rattle.flow_law.proofs.HistoryLemmas.{after_all-snoc}
use Rattle.flow_law.proofs.Owners.{legal_right}
use Rattle.flow_law.proofs.MailboxSteps.{past_here}
use Rattle.flow_gate.specs.Tokens as gated
use Rattle.flow_shared.specs.Calls.{Nexts}
use Rattle.flow_shared.specs.Futures.{SharedNumbered}
use Rattle.flow_word.specs.Tokens.{WordToken, WordOrigin}
use Rattle.flow_tests.specs.LentFlows.{HasAll, ReadsInOrder, beside_after, IsNewest}

module _ {T : Type 0} (u : ℕ) where
  -- u is a subscriber that has nothing to receive, and the state does not change
  abbrev HasNone : SharedFlowState T → SharedFlowState T → Type 0
  HasNone s new = (p : ℕ) × (position_of u s.subscribers ≡ Some p) × (own_of u s.subscribers ≡ []) × (drop p (values s) ≡ []) × (new ≡ s)

  empty_means : (s : SharedFlowState T) → Replies s (call.TakeNext u) (reply.Received Empty) → HasNone s (after s (call.TakeNext u) (reply.Received Empty))
  empty_means s = from (own_of u s.subscribers) refl
    where
      Emptied : SharedReply T → Type 0
      Emptied r = reply.Received Empty ≡ r

      here : (p : ℕ) → position_of u s.subscribers ≡ Some p → own_of u s.subscribers ≡ [] → (o : Option T) → slice_get (values s) p ≡ o
          → Emptied (reply_by reply.Received (option_map_or (λ value. answer (Value value) (settle (advance u (p + 1) s))) o (answer Empty s)).reply)
          → HasNone s (option_map_or (λ value. answer (Value value) (settle (advance u (p + 1) s))) o (answer Empty s)).after
      here p at none None e is = (p, at, none, drop_all p (values s) (past_here p (values s) e), refl)
      here p at none (Some v) e is = absurd (cc)

      found : own_of u s.subscribers ≡ [] → (o : Option ℕ) → position_of u s.subscribers ≡ o → Emptied (reply_by reply.Received (option_map_or (λ position. read u position s) o (answer Gone s)).reply)
          → HasNone s (option_map_or (λ position. read u position s) o (answer Gone s)).after
      found none None at is = absurd (cc)
      found none (Some p) at is = here p at none (slice_get (values s) p) refl is

      from : (own : List T) → own_of u s.subscribers ≡ own → Emptied (reply_by reply.Received (next_from u own s).reply) → HasNone s (next_from u own s).after
      from [] none is = found none (position_of u s.subscribers) refl is
      from (v ∷ own) some is = absurd (cc)

  -- a subscriber that got the reply Empty has received all
  pub has_all : (first : SharedFlowState T) (before later : Knowledge (Said (SharedCall T) (SharedReply T))) → AddsOne (IsHistory shared_flow first) before (call.TakeNext u) (reply.Received Empty) later
      → Delivers u first.config later.seen → HasAll u first.config later.seen
  has_all first before later a d = record {
    delivered = all;
    emitted = λ keeps buffered. all ∙ d.whole keeps buffered none.0 at;
  }
    where
      h : History T
      h = before.seen ++ a.grows.0

      e : HistoryEvent (Said (SharedCall T) (SharedReply T))
      e = event before.name a.began (said (call.TakeNext u) (reply.Received Empty))

      s : SharedFlowState T
      s = shared_after_all first h

      replied : Replies s (call.TakeNext u) (reply.Received Empty)
      replied = (legal_right shared_flow first h (e ∷ []) (subst (IsHistory shared_flow first) a.grows.1 a.history).legal).0

      none : HasNone s (after s (call.TakeNext u) (reply.Received Empty))
      none = empty_means s replied

      same : state_after first.config later.seen ≡ s
      same = ap (λ (z : SharedFlowState T). shared_after_all z later.seen) (sym a.history.begins.0) ∙ ap (shared_after_all first) a.grows.1 ∙ after_all-snoc shared_flow first h e ∙ none.4

      at : position_of u (state_after first.config later.seen).subscribers ≡ Some none.0
      at = ap (λ (z : SharedFlowState T). position_of u z.subscribers) same ∙ none.1

      none_own : own u first.config later.seen ≡ []
      none_own = sym (d.own_left none.0 at) ∙ ap (λ (z : SharedFlowState T). own_of u z.subscribers) same ∙ none.2

      none_left : box u first.config later.seen ≡ []
      none_left = sym (d.rest none.0 at) ∙ ap (λ (z : SharedFlowState T). drop none.0 (values z)) same ∙ none.3

      all : received u later.seen ≡ taken u first.config later.seen ++ (own u first.config later.seen ++ box u first.config later.seen)
      all = sym d.replies ∙ sym (append-nil (taken u first.config later.seen)) ∙ ap (λ l. taken u first.config later.seen ++ l) (λ i. sym none_own i ++ sym none_left i)

-- `has_all` in the words of the contracts of `next` and `seen_by_subscription`
pub has_all_now : {T : Type 0} (flow : gated.GateOrigin (SharedFlowState T)) (old : SharedNumbered T) (answer : Result (Next T) FlowFault) (next now : SharedNumbered T) → Nexts shared_flow flow old answer next → next.number ≡ old.number → now ≡ next
    → ((u : ℕ) → Delivers u flow.first.config now.token.knows.seen) → answer ≡ Ok Empty → HasAll now.number flow.first.config now.token.knows.seen
has_all_now {T} flow old answer next now called number same delivers empty =
    let answered = subst (λ (r : Result (Next T) FlowFault). Nexts shared_flow flow old r next) empty called in let seen = ap (λ (z : SharedNumbered T). z.token.knows.seen) same in
    let alike : old.number ≡ now.number = sym (ap (λ (z : SharedNumbered T). z.number) same ∙ number) in
    subst (λ (z : ℕ × History T). HasAll z.0 flow.first.config z.1) (λ i. (alike i, sym seen i))
    (has_all old.number flow.first old.token.knows next.token.knows answered.1 (subst (λ (h : History T). Delivers old.number flow.first.config h) seen (delivers old.number)))

module _ {A : Type 0} where
  -- the beginning of a subsequence is a subsequence
  beginning_of : (xs ys zs : List A) → IsSubsequence (xs ++ ys) zs → IsSubsequence xs zs
  beginning_of [] ys zs is = tt
  beginning_of (x ∷ xs) ys [] is = absurd is
  beginning_of (x ∷ xs) ys (z ∷ zs) is = elim is as (λ _. ((x ≡ z) × IsSubsequence xs zs) ⊎ IsSubsequence (x ∷ xs) zs) [
    | inl both ↦ inl (both.0, beginning_of xs ys zs both.1)
    | inr rest ↦ inr (beginning_of (x ∷ xs) ys zs rest)
  ]

-- what a subscriber has received is in order
pub reads_in_order : {T : Type 0} (u : ℕ) (config : Config) (h : History T) → Lags u config h → ReadsInOrder u config h
reads_in_order u config h lags = record {
  in_order = beginning_of _ (box u config h) _ lags.in_order;
  whole = λ keeps buffered. (box u config h, sym (lags.whole keeps buffered));
}

module _ {T : Type 0} (u : ℕ) where
  after_last : (m : Beside T) (h : StateHistory T) (e : HistoryEvent (Said (StateCall T) (StateReply T))) → beside_after u m (h ++ e ∷ []) ≡ follows u (beside_after u m h) e.what.call e.what.reply
  after_last m [] e = refl
  after_last m (x ∷ xs) e = after_last (follows u m x.what.call x.what.reply) xs e

  last_agrees : (m : Beside T) (h : StateHistory T) (e : HistoryEvent (Said (StateCall T) (StateReply T))) → AgreeAll u m (h ++ e ∷ []) → Agrees u (beside_after u m h) e.what.call e.what.reply
  last_agrees m [] e agrees = agrees.0
  last_agrees m (x ∷ xs) e agrees = last_agrees (follows u m x.what.call x.what.reply) xs e agrees.1

-- a caller that reads the current value gets the newest one
pub is_newest : {T : Type 0} (first : StateFlowState T) (before after : Knowledge (Said (StateCall T) (StateReply T))) (v : T) → AddsOne (IsStateHistory first) before GetValue (Got v) after
    → Conflates first.value after.seen → IsNewest first.value after.seen v
is_newest {T} first before after v a conflates = λ u unreached reached.
    let h = before.seen ++ a.grows.0 in let e = event before.name a.began (said GetValue (Got v)) in let m = beside unreached first.value in
    let agrees = subst (AgreeAll u m) a.grows.1 (conflates u unreached reached) in
    ap (λ (z : StateHistory T). cache (beside_after u m z).shared) a.grows.1 ∙ ap (λ (z : Beside T). cache z.shared) (after_last u m h e) ∙ last_agrees u m h e agrees

-- `is_newest` in the words of the contracts of `value` and `seen`
pub is_newest_now : {T : Type 0} (flow : WordOrigin T) (old next now : WordToken T) (v : T) → CallsAtOnceIn state_flow flow.first old GetValue (Got v) next → now ≡ next → Conflates flow.first.value now.knows.seen
    → IsNewest flow.first.value now.knows.seen v
is_newest_now {T} flow old next now v called same conflates = let seen = ap (λ (t : WordToken T). t.knows.seen) same in
    subst (λ (h : StateHistory T). IsNewest flow.first.value h v) (sym seen)
    (is_newest flow.first old.knows next.knows v called.0.1 (subst (Conflates flow.first.value) seen conflates))
