-- Answers that are recorded of a shared flow, and its replies.
use Rattle.std.proofs.Common.{◌≡◌, ℕ, ◌+◌, Bool, true, false, not, ◌==◌, List, length, map, Option, Some, None, refl, sym, ap, ◌∙◌, subst, inl, inr}
use Rattle.std.specs.Prelude.{filter, Err}
use Rattle.std.proofs.lemmas.Bool.{false≢true, cond_both, cond-false}
use Rattle.flow_law.specs.declared.config.Config.{Config}
use Rattle.flow_law.specs.declared.fault.FlowFault.TheVariants.{Exhausted}
use Rattle.flow_law.specs.declared.outcome.Emit.TheVariants.{Done, Queued}
use Rattle.flow_law.specs.declared.call.SharedCall.{SharedCall}
use Rattle.flow_law.specs.declared.call.SharedReply.{SharedReply}
use Rattle.flow_law.specs.declared.call.SharedReply.TheVariants as reply
use Rattle.flow_law.specs.declared.states.SharedFlowState.{SharedFlowState}
use Rattle.flow_law.specs.flow.SharedFlow.{Replied, is_exhausted, is_offered_as, issuing, stand_at}
use Rattle.flow_law.specs.flow.SharedFlow as law
use Rattle.flow_law.specs.flow.EmitRule as rule
use Rattle.flow_law.specs.flow.SharedStep as flow
use Rattle.flow_law.specs.flow.SharedHistory.{answer_to, reply_by, is_refused, Replies}
use Rattle.flow_law.proofs.Boxes.{admit_subscribers}
use Rattle.flow_law.proofs.Moves.{Keeps}
use Rattle.flow_check.specs.declared.shared_calls.SharedAnswer.{SharedAnswer}
use Rattle.flow_check.specs.declared.shared_calls.SharedAnswer.TheVariants as answer
use Rattle.flow_check.specs.SharedRecords.{IsRecorded}
use Rattle.flow_check.specs.SharedMachine.{OwnAnswer, done, received, tested, nothing, counted, cached, same_answer, agrees}
use Rattle.flow_check.proofs.QueueLemmas.{eqb_same, eqb_is, values_same}

abbrev pub Reply : Type 0
Reply = SharedReply ℕ

-- ---- answers

-- an answer that may be recorded of one of the flow's own
abbrev answer_of : OwnAnswer → SharedAnswer
answer_of done = answer.Done
answer_of (received v) = answer.Value v
answer_of (tested b) = answer.Truth b
answer_of nothing = answer.Empty
answer_of (counted n) = answer.Number n
answer_of (cached vs) = answer.Values (record { ref_ptr = (0, 0); now = vs })

pub same_own : (o : OwnAnswer) → same_answer o (answer_of o) ≡ true
same_own done = refl
same_own (received v) = eqb_same v
same_own (tested true) = refl
same_own (tested false) = refl
same_own nothing = refl
same_own (counted n) = eqb_same n
same_own (cached vs) = values_same vs

-- the own answer o was recorded as a
abbrev pub Recorded : Option SharedAnswer → OwnAnswer → Type 0
Recorded written o = (a : SharedAnswer) × IsRecorded written a × (same_answer o a ≡ true)

pub recorded_own : (own : Option OwnAnswer) (given : Option SharedAnswer) → agrees own given ≡ true → (o : OwnAnswer) × (own ≡ Some o) × Recorded given o
recorded_own None given h = absurd (false≢true h)
recorded_own (Some o) None h = (o, refl, (answer_of o, inl refl, same_own o))
recorded_own (Some o) (Some a) h = (o, refl, (a, inr refl, h))

pub own_agrees : (o : OwnAnswer) (own : Option OwnAnswer) (given : Option SharedAnswer) (a : SharedAnswer) → own ≡ Some o → IsRecorded given a → same_answer o a ≡ true → agrees own given ≡ true
own_agrees o own given a e r same = subst (λ (x : Option OwnAnswer). agrees x given ≡ true) (sym e) (
    elim r [
      | inl none ↦ subst (λ (x : Option SharedAnswer). agrees (Some o) x ≡ true) (sym none) refl
      | inr some ↦ subst (λ (x : Option SharedAnswer). agrees (Some o) x ≡ true) (sym some) same
    ])

pub done_is : (a : SharedAnswer) → same_answer done a ≡ true → a ≡ answer.Done
done_is answer.Done h = refl
done_is _ h = absurd (false≢true h)

pub tested_is : (b : Bool) (a : SharedAnswer) → same_answer (tested b) a ≡ true → a ≡ answer.Truth b
tested_is true (answer.Truth true) h = refl
tested_is false (answer.Truth false) h = refl
tested_is true (answer.Truth false) h = absurd (false≢true h)
tested_is false (answer.Truth true) h = absurd (false≢true h)
tested_is b _ h = absurd (false≢true h)

pub counted_is : (n : ℕ) (a : SharedAnswer) → same_answer (counted n) a ≡ true → a ≡ answer.Number n
counted_is n (answer.Number k) h = ap answer.Number (sym (eqb_is n k h))
counted_is n _ h = absurd (false≢true h)

-- ---- replies

-- a reply that refuses nothing is one exactly if it is the flow's own
pub replies_of : (s : SharedFlowState ℕ) (c : SharedCall ℕ) (r : Reply) → is_refused r ≡ false → r ≡ (answer_to c s).reply → Replies s c r
replies_of s c (reply.Refused fault) fresh e = absurd (false≢true (sym fresh))
replies_of s c r fresh e = e

pub replied_own : (s : SharedFlowState ℕ) (c : SharedCall ℕ) (r : Reply) → is_refused r ≡ false → Replies s c r → r ≡ (answer_to c s).reply
replied_own s c (reply.Refused fault) fresh e = absurd (false≢true (sym fresh))
replied_own s c r fresh e = e

-- with a number left, no call that issues one is refused
module _ (s : SharedFlowState ℕ) (room : is_exhausted s ≡ false) where
  fresh_issuing : {R : Type 0} (wrap : R → Reply) (x : Replied R ℕ) → is_refused (reply_by wrap x.reply) ≡ false → is_refused (reply_by wrap (issuing s x).reply) ≡ false
  fresh_issuing wrap x fresh = ap (λ a. is_refused (reply_by wrap a.reply)) (cond-false (is_exhausted s) (record { reply = Err Exhausted; after = s }) x room) ∙ fresh

  pub fresh_try : (v : ℕ) (c : rule.EmitCase) → is_refused {T = ℕ} (reply_by reply.Tested (rule.try_emit_in c v s).reply) ≡ false
  fresh_try v rule.appends = fresh_issuing reply.Tested (law.answer true (rule.append v s)) refl
  fresh_try v rule.offers = refl
  fresh_try v rule.queues = refl
  fresh_try v rule.drops_latest = refl
  fresh_try v rule.drops_oldest = fresh_issuing reply.Tested (law.answer true (rule.drop_oldest (rule.append v s))) refl

  pub fresh_emit : (v : ℕ) (c : rule.EmitCase) → is_refused {T = ℕ} (reply_by reply.Emitted (rule.emit_in c v s).reply) ≡ false
  fresh_emit v rule.appends = fresh_issuing reply.Emitted (law.answer Done (rule.append v s)) refl
  fresh_emit v rule.offers = fresh_issuing reply.Emitted (law.answer (Queued (s.issued + 1)) (rule.append v s)) refl
  fresh_emit v rule.queues = fresh_issuing reply.Emitted (law.answer (Queued (s.issued + 1)) (rule.suspend v s)) refl
  fresh_emit v rule.drops_latest = refl
  fresh_emit v rule.drops_oldest = fresh_issuing reply.Emitted (law.answer Done (rule.drop_oldest (rule.append v s))) refl

  pub fresh_subscribe : (own : List ℕ) → is_refused {T = ℕ} (reply_by reply.Subscribed (flow.subscribe own s).reply) ≡ false
  fresh_subscribe own = fresh_issuing reply.Subscribed (law.answer (s.issued + 1) (flow.enroll own s)) refl

-- no call changes how many numbers there are
pub limit_keeps : (limit : ℕ) (s : SharedFlowState ℕ) → s.config.limit ≡ limit → Keeps (λ t. t.config.limit ≡ limit) s
limit_keeps limit s h = record {
  appends = λ v _. h;
  suspends = λ v _ _. h;
  drops = λ v _ _. h;
  withdraws = λ e. kept (flow.withdraw e s) ∙ cond_both (is_offered_as e s) (record s { subscribers = map (stand_at (length s.emitted)) s.subscribers }) (record s { queue = filter (λ q. not (q.number == e)) s.queue }) (λ (t : SharedFlowState ℕ). t.config.limit ≡ limit) (λ _. h) (λ _. h);
  advances = λ u p v _ _. kept (flow.advance u (p + 1) s) ∙ h;
  leaves = λ u. kept (flow.leave u s) ∙ h;
  enrolls = λ _. h;
  takes_own = λ _ _ _ _. h;
  forgets = h;
}
  where
    kept : (t : SharedFlowState ℕ) → (flow.settle t).config.limit ≡ t.config.limit
    kept t = ap (λ (c : Config). c.limit) (admit_subscribers t t.queue).1
