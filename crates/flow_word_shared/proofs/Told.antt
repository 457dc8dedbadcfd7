-- What steps tell, as contracts say it: of tokens. Begin with `told_calls`, and `receives_one` of a subscriber.
use Rattle.std.proofs.Common.{◌≡◌, ◌≢◌, ℕ, ◌+◌, ◌-◌, ◌^◌, ◌<◌, ◌≤◌, List, [], ◌∷◌, length, Option, Some, None, refl, sym, ap, ◌∙◌, subst, length-append, arith, map}
use Rattle.std.specs.Prelude.{max, Result, Ok}
use Rattle.atomic_table.specs.Seated.{TableId}
use Rattle.atomic_table.specs.declared.shared.Seat.{Seat}
use Rattle.flow_law.specs.flow.Draining.{NextsGive}
use Rattle.flow_law.specs.declared.call.SharedCall.{SharedCall}
use Rattle.flow_law.specs.declared.call.SharedCall.TheVariants as call
use Rattle.flow_law.specs.declared.call.SharedReply.{SharedReply}
use Rattle.flow_law.specs.declared.call.SharedReply.TheVariants as reply
use Rattle.flow_law.specs.declared.outcome.Next.{Next}
use Rattle.flow_law.specs.declared.outcome.Next.TheVariants.{Value}
use Rattle.flow_law.specs.declared.fault.FlowFault.{FlowFault}
use Rattle.flow_law.specs.declared.states.SharedFlowState.{SharedFlowState}
use Rattle.flow_law.specs.history.History.{IsHistory, replied}
use Rattle.flow_law.specs.history.Promise.{AddsOne, CallsIn, CallsAtOnceIn}
use Rattle.flow_law.specs.history.Growth.{Fits}
use Rattle.flow_law.specs.flow.SharedHistory.{History, shared_flow}
use Rattle.flow_law.specs.history.Tokens.{token, numbered_token}
use Rattle.flow_word_shared.specs.declared.view.RingKnown.{RingKnown}
use Rattle.flow_word_shared.specs.declared.view.Post.{Post}
use Rattle.flow_word_shared.specs.declared.view.Reads.{Reads}
use Rattle.flow_word_shared.specs.Answers.{HasTried, IsOverrun, WordFlowNexts, NextsTaken}
use Rattle.flow_word_shared.specs.Rule.{capacity_of, place_at}
use Rattle.flow_word_shared.specs.Steps.{MeOf, SeesMore, log_after, StepCalls, StepSees, StepsGive, Receives}
use Rattle.flow_word_shared.specs.Tokens.{WordFlowToken, WordFlowNumbered, word_flow_id, ring_token, post_of_reads, position_of_reads, IsReading, HasPlaceOrNone}
use Rattle.flow_word_shared.specs.declared.place.Place.{Place as Placed}
use Rattle.flow_word_shared.specs.View.{SharedKnowledge, began_as, only, reading_at}
use Rattle.flow_word_shared.specs.declared.view.RingStart.{RingStart}
use Rattle.flow_word_shared.proofs.ReadSteps.{log_grows}
use Rattle.flow_word_shared.proofs.Chains.{sees_sees, sees_then, tried_calls}

-- what a seat knows as a subscriber, in the form in which contracts say it
pub reads_as : (reads : Option Reads) (post : Option Post) (number position : ℕ) (words : List (List ℕ)) → reads ≡ Some (reading_at post number position words)
    → reads ≡ Some (reading_at (post_of_reads reads) number position words)
reads_as reads post number position words e = e ∙ ap (λ o. Some (reading_at o number position words)) (sym (ap post_of_reads e))

-- a subscriber's place, by another seat that knows the same of it
pub placed_as : {T : Type 0} (place : Option Placed) (s t : Seat Unit (List (RingKnown T))) (seen : ℕ) → (only t.me.0).reads ≡ (only s.me.0).reads → (only t.me.0).start ≡ (only s.me.0).start
    → length (log_after (only s.me.0).start (only s.me.0).knows.seen) ≤ length (log_after (only t.me.0).start (only t.me.0).knows.seen) → HasPlaceOrNone place s seen → HasPlaceOrNone place t seen
placed_as None s t seen reads start more f = ap (λ (z : RingStart). z.places) start ∙ f
placed_as (Some place) s t seen reads start more f = (
  record {
    at = f.0.at;
    post = ap post_of_reads reads ∙ f.0.post;
    word = f.0.word ∙ ap (λ (z : RingStart). place_at z f.0.at) (sym start);
    there = subst (λ (z : RingStart). f.0.at < z.places) (sym start) f.0.there;
    known = let k = f.0.known in omega (arith, k, more);
    small = f.0.small;
    few = subst (λ o. position_of_reads o + 1 < 2 ^ 63) (sym reads) f.0.few;
  },
  f.1,
)

-- whatever it knows to be emitted beside its place
pub placed_new : {T : Type 0} (place : Option Placed) (s : Seat Unit (List (RingKnown T))) (seen : ℕ) → HasPlaceOrNone place s seen → HasPlaceOrNone place s 0
placed_new None s seen f = f
placed_new (Some place) s seen f = (f.0, refl)

abbrev Place : Type 0 → Type 0
Place T = Seat Unit (List (RingKnown T))

module _ {T : Type 0} where
  pub told_calls : (first : SharedFlowState T) (s t : Place T) (call : SharedCall T) (reply : SharedReply T) → t.table_id ≡ s.table_id → began_as (only s.me.0).start ≡ first → StepCalls s.me call reply t.me
      → CallsAtOnceIn shared_flow first (ring_token s) call reply (ring_token t)
  told_calls first s t call reply table began told = (
    ((λ i. word_flow_id (table i) (told.1 i)), subst (λ (z : SharedFlowState T). AddsOne (IsHistory shared_flow z) (only s.me.0).knows call reply (only t.me.0).knows) began told.0),
    told.3,
  )

  -- the token has seen more, without a call
  abbrev pub Saw : ℕ → WordFlowToken T → WordFlowToken T → Type 0
  Saw failed a b = (b.table_id ≡ a.table_id) × SeesMore failed a.knows b.knows

  pub told_sees : (failed : ℕ) (s t : Place T) → t.table_id ≡ s.table_id → StepSees failed s.me t.me → Saw failed (ring_token s) (ring_token t)
  told_sees failed s t table told = ((λ i. word_flow_id (table i) (told.1 i)), told.0)

  -- a history that fits what a token knows has the values that the token knows of
  pub fits_emitted : (start : RingStart) (k : SharedKnowledge T) (h : History T) (n : ℕ) → Fits h k → n ≤ length (log_after start k.seen) → n ≤ length (log_after start h)
  fits_emitted start k h n fits less =
      let g = log_grows start k.seen fits.0.0 in
      let more = ap (λ l. length (log_after start l)) fits.0.1 ∙ (ap length g.1 ∙ length-append (log_after start k.seen) g.0) in omega (arith, less, more)

  -- values that were emitted stay emitted
  pub still_emitted : (failed : ℕ) (me after : MeOf T) (n : ℕ) → StepSees failed me after → n ≤ length (log_after (only me.0).start (only me.0).knows.seen) → n ≤ length (log_after (only after.0).start (only after.0).knows.seen)
  still_emitted failed me after n told less =
      let h = (only me.0).knows.seen in let g = log_grows (only after.0).start h told.0.grows.0 in
      let more = ap (λ l. length (log_after (only after.0).start l)) told.0.grows.1 ∙ (ap length g.1 ∙ length-append (log_after (only after.0).start h) g.0) in
      let same = ap (λ (z : RingStart). length (log_after z h)) told.1 in omega (arith, less, more, same)

  -- the seat still has one token
  pub still_one : (me after : MeOf T) → me ≡ (only me.0 ∷ [], []) → after ≡ (only after.0 ∷ [], me.1) → after ≡ (only after.0 ∷ [], [])
  still_one me after is same = same ∙ ap (λ (l : List (ℕ × Unit {0})). (only after.0 ∷ [], l)) (ap (λ (m : MeOf T). m.1) is)

  pub saw_then : (first : SharedFlowState T) (a b c : WordFlowToken T) (call : SharedCall T) (reply : SharedReply T) → Saw 0 a b → CallsAtOnceIn shared_flow first b call reply c → CallsAtOnceIn shared_flow first a call reply c
  saw_then first a b c call reply one two = ((two.0.0 ∙ one.0, sees_then (IsHistory shared_flow first) 0 a.knows b.knows c.knows call reply one.1 two.0.1), omega (arith, two.1, one.1.lost))

  pub saw_saw : (a b c : WordFlowToken T) → Saw 0 a b → Saw 0 b c → Saw 0 a c
  saw_saw a b c one two = (two.0 ∙ one.0, sees_sees 0 0 a.knows b.knows c.knows one.1 two.1)

  pub saw_overrun : (a b c : WordFlowToken T) → Saw 0 a b → IsOverrun b c → IsOverrun a c
  saw_overrun a b c one two = (two.0 ∙ one.0, sees_sees 0 1 a.knows b.knows c.knows one.1 two.1)

  module _ (packs : List ℕ → Type 0) (value_of : List ℕ → T) (number p count : ℕ) (s t : Place T) where
    -- one value
    pub receives_one : (first : SharedFlowState T) (w : List ℕ) → t.table_id ≡ s.table_id → began_as (only s.me.0).start ≡ first → Receives packs value_of number p count (w ∷ []) s.me t.me
        → packs w × CallsAtOnceIn shared_flow first (ring_token s) (call.TakeNext number) (reply.Received (Value (value_of w))) (ring_token t)
    receives_one first w table began r =
        let told = subst (λ (m : MeOf T). StepCalls r.between (call.TakeNext number) (reply.Received (Value (value_of w))) m) r.gives.2 r.gives.1 in (
          r.packed.0,
          (
            (
              (λ i. word_flow_id (table i) (r.start i)),
              sees_then (IsHistory shared_flow first) 0 (only s.me.0).knows (only r.between.0).knows (only t.me.0).knows (call.TakeNext number) (reply.Received (Value (value_of w))) r.sees.0
                  (subst (λ (z : SharedFlowState T). AddsOne (IsHistory shared_flow z) (only r.between.0).knows (call.TakeNext number) (reply.Received (Value (value_of w))) (only t.me.0).knows) (ap began_as r.sees.1 ∙ began) told.0),
            ),
            omega (arith, told.3, r.sees.0.lost),
          ),
        )

    -- no value
    pub receives_none : t.table_id ≡ s.table_id → Receives packs value_of number p count [] s.me t.me → IsOverrun (ring_token s) (ring_token t)
    receives_none table r = ((λ i. word_flow_id (table i) (r.start i)), subst (λ (m : MeOf T). SeesMore 1 (only s.me.0).knows (only m.0).knows) r.gives r.sees.0)

    -- where the subscriber then is
    pub reads_on : (ws : List (List ℕ)) → s.me ≡ (only s.me.0 ∷ [], []) → Receives packs value_of number p count ws s.me t.me
        → IsReading t number (max p (count - capacity_of (only s.me.0).start) + length ws) [] count
    reads_on ws is r = ((still_one s.me t.me is r.one, r.hold), reads_as (only t.me.0).reads None number (max p (count - capacity_of (only s.me.0).start) + length ws) [] r.reads, r.stands, omega (arith, r.counted))

  module _ (packs : List ℕ → Type 0) (value_of : List ℕ → T) (first : SharedFlowState T) (number : ℕ) (table : TableId) where
    -- the subscription whose seat has this view
    abbrev pub numbered_by : MeOf T → WordFlowNumbered T
    numbered_by me = numbered_token (token (word_flow_id table (only me.0).start) (only me.0).knows) number

    -- calls of `next` at one step, as those of a subscription
    pub steps_give : (ws : List (List ℕ)) (me after : MeOf T) → began_as (only me.0).start ≡ first → StepsGive packs value_of number me ws after → NextsGive (WordFlowNexts first) (numbered_by me) (map value_of ws) (numbered_by after)
    steps_give [] me after began folds = ap numbered_by folds
    steps_give (w ∷ ws) me after began folds = (
      numbered_by folds.0,
      (
        (
          (λ i. word_flow_id table (folds.1.1 i)),
          subst (λ (z : SharedFlowState T). AddsOne (IsHistory shared_flow z) (only me.0).knows (call.TakeNext number) (reply.Received (Value (value_of w))) (only folds.0.0).knows) began folds.1.0,
        ),
        refl,
      ),
      steps_give ws folds.0 after (ap began_as folds.1.1 ∙ began) folds.2,
    )

  -- a call of `next`, after the token has tried
  pub tried_nexts : (first : SharedFlowState T) (a b c : WordFlowNumbered T) (result : Result (Next T) FlowFault) → HasTried a.token b.token → b.number ≡ a.number → WordFlowNexts first b result c → WordFlowNexts first a result c
  tried_nexts first a b c result one number next = (
    tried_calls first a.token b.token c.token (call.TakeNext a.number) (replied shared_flow reply.Received result) one (subst (λ n. CallsIn shared_flow first b.token (call.TakeNext n) (replied shared_flow reply.Received result) c.token) number next.0),
    next.1 ∙ number,
  )

  -- the first of some calls of `next`, after the token has tried
  pub tried_gives : (first : SharedFlowState T) (a b c : WordFlowNumbered T) (v : T) (vs : List T) → HasTried a.token b.token → b.number ≡ a.number → NextsGive (WordFlowNexts first) b (v ∷ vs) c → NextsGive (WordFlowNexts first) a (v ∷ vs) c
  tried_gives first a b c v vs one number folds = (folds.0, tried_nexts first a b folds.0 (Ok (Value v)) one number folds.1, folds.2)

  -- what a load of word 0 told of the words that the buffer still has: calls of `next`, or the subscriber was overrun
  module _ (packs : List ℕ → Type 0) (value_of : List ℕ → T) (first : SharedFlowState T) (number p count : ℕ) (a s t : Place T) (saw : Saw 0 (ring_token a) (ring_token s)) (table : t.table_id ≡ s.table_id) where
    pub all_given : began_as (only s.me.0).start ≡ first → (ws : List (List ℕ)) → length ws ≢ 0 → Receives packs value_of number p count ws s.me t.me
        → NextsGive (WordFlowNexts first) (numbered_token (ring_token a) number) (map value_of ws) (numbered_token (ring_token t) number)
    all_given began [] some r = absurd (some refl)
    all_given began (w ∷ ws) some r =
        let mid = numbered_by packs value_of first number s.table_id r.between in
        let seen : Saw 0 (ring_token a) mid.token = saw_saw (ring_token a) (ring_token s) mid.token saw ((λ i. word_flow_id s.table_id (r.sees.1 i)), r.sees.0) in
        tried_gives first (numbered_token (ring_token a) number) mid (numbered_token (ring_token t) number) (value_of w) (map value_of ws) (seen.0, (0, seen.1)) refl
        (subst (λ (z : TableId). NextsGive (WordFlowNexts first) mid (map value_of (w ∷ ws)) (numbered_token (token (word_flow_id z (only t.me.0).start) (only t.me.0).knows) number)) (sym table)
        (steps_give packs value_of first number s.table_id (w ∷ ws) r.between t.me (ap began_as r.sees.1 ∙ began) r.gives))

    pub none_given : (ws : List (List ℕ)) → length ws ≡ 0 → Receives packs value_of number p count ws s.me t.me → IsOverrun (ring_token a) (ring_token t)
    none_given [] none r = saw_overrun (ring_token a) (ring_token s) (ring_token t) saw (receives_none packs value_of number p count s t table r)
    none_given (w ∷ ws) none r = absurd (omega (arith, none))

  -- some values were taken, after the token has tried
  pub tried_takes : (first : SharedFlowState T) (count : ℕ) (a b c : WordFlowNumbered T) (list longer : List T) → HasTried a.token b.token → b.number ≡ a.number → count ≢ 0 → NextsTaken (WordFlowNexts first) count b list longer c
      → NextsTaken (WordFlowNexts first) count a list longer c
  tried_takes first count a b c list longer tried number some t =
      record { values = t.values; taken = by t.values t.taken (λ e. some (sym t.counted ∙ e)); appended = t.appended; counted = t.counted }
    where
      by : (vs : List T) → NextsGive (WordFlowNexts first) b vs c → length vs ≢ 0 → NextsGive (WordFlowNexts first) a vs c
      by [] folds ne = absurd (ne refl)
      by (v ∷ vs) folds ne = tried_gives first a b c v vs tried number folds
