-- Steps one after the other: a token that has seen more, and then made a call, has made that call.
use Rattle.std.proofs.Common.{◌≡◌, ◌≢◌, ℕ, ◌+◌, List, [], ◌∷◌, ◌++◌, refl, sym, ap, ◌∙◌, subst, append_assoc, append-nil, arith}
use Rattle.std.specs.Prelude.{Result, Ok, Err}
use Rattle.flow_law.specs.declared.history.HistoryEvent.{HistoryEvent}
use Rattle.flow_law.specs.declared.history.Said.{Said}
use Rattle.flow_law.specs.declared.call.SharedCall.{SharedCall}
use Rattle.flow_law.specs.declared.call.SharedReply.{SharedReply}
use Rattle.flow_law.specs.history.Growth.{GrowsByOthers, event, child_name, loses}
use Rattle.flow_law.specs.history.Promise.{Grows, said, AddsOne, CallsIn}
use Rattle.flow_law.specs.declared.fault.FlowFault.{FlowFault}
use Rattle.flow_law.specs.declared.call.SharedReply.TheVariants as reply
use Rattle.flow_law.specs.declared.states.SharedFlowState.{SharedFlowState}
use Rattle.flow_law.specs.history.History.{IsHistory}
use Rattle.flow_law.specs.flow.SharedHistory.{History, shared_flow}
use Rattle.flow_law.specs.history.Tokens.{IsBusy, SubscribesIn, subscription_name}
use Rattle.flow_law.proofs.Names.{every_append}
use Rattle.flow_law.proofs.RealTimeLemmas.{grown_longer}
use Rattle.flow_word_shared.specs.Steps.{SeesMore}
use Rattle.flow_word_shared.specs.Answers.{HasTried, IsOverrun}
use Rattle.flow_word_shared.specs.Tokens.{WordFlowToken, WordFlowNumbered}
use Rattle.flow_word_shared.specs.View.{SharedKnowledge}

module _ {T : Type 0} where
  -- two growths by others
  grows_twice : (name : List ℕ) (a b c : History T) → GrowsByOthers name a b → GrowsByOthers name b c → GrowsByOthers name a c
  grows_twice name a b c one two = (
    one.0 ++ two.0,
    two.1 ∙ ap (λ l. l ++ two.0) one.1 ∙ append_assoc a one.0 two.0,
    every_append (λ (e : HistoryEvent (Said (SharedCall T) (SharedReply T))). e.name ≢ name) one.0 two.0 one.2 two.2,
  )

  grows_then : (name : List ℕ) (a b c : History T) (began : ℕ) (what : Said (SharedCall T) (SharedReply T)) → GrowsByOthers name a b → Grows name b began what c → Grows name a began what c
  grows_then name a b c began what one two = (
    one.0 ++ two.0,
    two.1 ∙ ap (λ l. (l ++ two.0) ++ event name began what ∷ []) one.1 ∙ ap (λ l. l ++ event name began what ∷ []) (append_assoc a one.0 two.0),
    every_append (λ (e : HistoryEvent (Said (SharedCall T) (SharedReply T))). e.name ≢ name) one.0 two.0 one.2 two.2,
  )

  -- nothing has changed
  pub sees_none : (k : SharedKnowledge T) → SeesMore 0 k k
  sees_none k = record { name = refl; made = refl; lost = omega arith; grows = ([], sym (append-nil k.seen), tt) }

  pub sees_sees : (m n : ℕ) (a b c : SharedKnowledge T) → SeesMore m a b → SeesMore n b c → SeesMore (m + n) a c
  sees_sees m n a b c one two = record {
    name = two.name ∙ one.name;
    made = two.made ∙ one.made;
    lost = omega (arith, one.lost, two.lost);
    grows = grows_twice a.name a.seen b.seen c.seen one.grows (subst (λ (n : List ℕ). GrowsByOthers n b.seen c.seen) one.name two.grows);
  }

  pub sees_then : (Is : History T → Type 0) (n : ℕ) (a b c : SharedKnowledge T) (call : SharedCall T) (reply : SharedReply T) → SeesMore n a b → AddsOne Is b call reply c → AddsOne Is a call reply c
  sees_then Is n a b c call reply one two = record {
    name = two.name ∙ one.name;
    made = two.made ∙ one.made;
    lost = omega (arith, one.lost, two.lost);
    history = two.history;
    began = two.began;
    grows = grows_then a.name a.seen b.seen c.seen two.began (said call reply) one.grows (subst (λ (n : List ℕ). Grows n b.seen two.began (said call reply) c.seen) one.name two.grows);
    in_time = let l = grown_longer a.name a.seen b.seen one.grows in (omega (arith, l, two.in_time.0), two.in_time.1);
    timed = two.timed;
    names = two.names;
  }

  sees_lost : (k : SharedKnowledge T) → SeesMore 1 k (loses k)
  sees_lost k = record { name = refl; made = refl; lost = refl; grows = ([], sym (append-nil k.seen), tt) }

  -- one more attempt was lost
  pub tried_again : (a b c : WordFlowToken T) → HasTried a b → IsBusy b c → HasTried a c
  tried_again a b c one lost = (
    ap (λ (t : WordFlowToken T). t.table_id) lost ∙ one.0,
    (one.1.0 + 1, sees_sees one.1.0 1 a.knows b.knows c.knows one.1.1 (subst (λ (t : WordFlowToken T). SeesMore 1 b.knows t.knows) (sym lost) (sees_lost b.knows))),
  )

  -- a subscriber was overrun
  pub tried_overrun : (a b c : WordFlowToken T) → HasTried a b → IsOverrun b c → HasTried a c
  tried_overrun a b c one two = (two.0 ∙ one.0, (one.1.0 + 1, sees_sees one.1.0 1 a.knows b.knows c.knows one.1.1 two.1))

  same_name : (a b : WordFlowToken T) → HasTried a b → subscription_name b.knows ≡ subscription_name a.knows
  same_name a b one = λ i. child_name (one.1.1.name i) (one.1.1.made i + 1)

  -- a call after lost attempts
  pub tried_calls : (first : SharedFlowState T) (a b c : WordFlowToken T) (call : SharedCall T) (reply : SharedReply T) → HasTried a b → CallsIn shared_flow first b call reply c → CallsIn shared_flow first a call reply c
  tried_calls first a b c call reply one two = (two.0 ∙ one.0, sees_then (IsHistory shared_flow first) one.1.0 a.knows b.knows c.knows call reply one.1.1 two.1)

  pub tried_subscribes : (first : SharedFlowState T) (subscribe : List ℕ → SharedCall T) (a b : WordFlowToken T) (result : Result (WordFlowNumbered T) FlowFault) (c : WordFlowToken T) → HasTried a b
      → SubscribesIn shared_flow first subscribe b result c → SubscribesIn shared_flow first subscribe a result c
  tried_subscribes first subscribe a b (Ok s) c one two =
      (two.0, tried_calls first a b two.0 (subscribe (subscription_name a.knows)) (reply.Subscribed s.number) one (subst (λ n. CallsIn shared_flow first b (subscribe n) (reply.Subscribed s.number) two.0) (same_name a b one) two.1), two.2, two.3)
  tried_subscribes first subscribe a b (Err fault) c one two =
      tried_calls first a b c (subscribe (subscription_name a.knows)) (reply.Refused fault) one (subst (λ n. CallsIn shared_flow first b (subscribe n) (reply.Refused fault) c) (same_name a b one) two)
