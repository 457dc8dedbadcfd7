-- The values that the core holds are its replay cache, and an emission adds its value to them.
use Rattle.std.proofs.Common.{◌≡◌, ℕ, ◌+◌, ◌-◌, Bool, true, false, List, [], ◌∷◌, ◌++◌, length, drop, refl, sym, ap, ◌∙◌, arith, length-append, length-drop}
use Rattle.std.specs.Prelude.{Ok, Err, Result, Vec, IfOk, if◌then◌else◌}
use Rattle.std.proofs.lemmas.List.{drop-drop, drop-append-le, map-append, length-map}
use Rattle.flow_law.specs.declared.states.SharedFlowState.{SharedFlowState}
use Rattle.flow_law.specs.declared.call.SharedCall.TheVariants as call
use Rattle.flow_law.specs.declared.call.SharedReply.{SharedReply}
use Rattle.flow_law.specs.declared.call.SharedReply.TheVariants as reply
use Rattle.flow_law.specs.declared.fault.FlowFault.{FlowFault}
use Rattle.flow_law.specs.declared.fault.FlowFault.TheVariants.{Exhausted}
use Rattle.flow_core.specs.SharedCore.{cache_reply}
use Rattle.flow_law.specs.flow.SharedFlow.{Replied, answer, issuing, is_exhausted, cache_start, values, cache}
use Rattle.flow_law.specs.flow.EmitRule.{emit_case, appends, append, numbered, try_emit, try_emit_in}
use Rattle.flow_law.specs.flow.SharedHistory.{Replies, after, reply_by}
use Rattle.flow_law.specs.flow.Standing.{Core, StandsFor, least_position, first_needed}
use Rattle.use_flows.specs.Readings.{IsUnread, last, latest_of, with_reading}

-- dropping all but the last n values first does not change the last n values of the whole
last-append : {T : Type 0} (n : ℕ) (xs ys : List T) → last n (last n xs ++ ys) ≡ last n (xs ++ ys)
last-append n xs ys =
    let all = length xs - n in
    let seam : last n xs ++ ys ≡ drop all (xs ++ ys) = sym (drop-append-le all xs ys (omega arith)) in
    let left : length (drop all (xs ++ ys)) ≡ length xs + length ys - all = length-drop all (xs ++ ys) ∙ ap (λ k. k - all) (length-append xs ys) in
    let count : length (xs ++ ys) ≡ length xs + length ys = length-append xs ys in
    ap (last n) seam
    ∙ drop-drop (length (drop all (xs ++ ys)) - n) all (xs ++ ys)
    ∙ ap (λ k. drop k (xs ++ ys)) (omega (arith, left, count))

module _ {T : Type 0} where
  -- the cache is the last of all values
  cache_is_last : (s : SharedFlowState T) → IsUnread s → cache s ≡ last s.config.replay (values s)
  cache_is_last s unread =
      let count : length (values s) ≡ length s.emitted = length-map s.emitted _ in
      let start : cache_start s ≡ length (values s) - s.config.replay = omega (arith, unread.whole, count) in
      ap (λ k. drop k (values s)) start

  kept : (core : Core T) (s : SharedFlowState T) → StandsFor core s → IsUnread s → (latest_of core).values ≡ cache s
  kept core s stands unread =
      let first : first_needed s ≡ cache_start s = ap (least_position (cache_start s)) unread.nobody in
      stands.held ∙ ap (λ k. drop k (values s)) first

  unread_after : (x : T) (s : SharedFlowState T) → IsUnread s → IsUnread (append x s)
  unread_after x s unread = record { nobody = unread.nobody; whole = unread.whole }

  cache_after : (x : T) (s : SharedFlowState T) → IsUnread s → cache (append x s) ≡ last s.config.replay (cache s ++ x ∷ [])
  cache_after x s unread =
      let longer : values (append x s) ≡ values s ++ x ∷ [] = map-append _ s.emitted (numbered x s ∷ []) in
      cache_is_last (append x s) (unread_after x s unread)
      ∙ ap (last s.config.replay) longer
      ∙ sym (last-append s.config.replay (values s) (x ∷ []))
      ∙ ap (λ l. last s.config.replay (l ++ x ∷ [])) (sym (cache_is_last s unread))

  -- an emission without a subscriber is appended
  is_appended : (s : SharedFlowState T) → IsUnread s → emit_case s ≡ appends
  is_appended s unread = rw unread.nobody refl

  pub stands_after : (x : T) (s : SharedFlowState T) (b : Bool) → IsUnread s → Replies s (call.TryEmit x) (reply.Tested b)
      → after s (call.TryEmit x) (reply.Tested b) ≡ append x s
  stands_after x s b unread said =
      let opened : try_emit x s ≡ issuing s (answer true (append x s)) = ap (λ k. try_emit_in k x s) (is_appended s unread) in
      let replied : reply.Tested b ≡ reply_by reply.Tested (issued (is_exhausted s)).reply = said ∙ ap (λ a. reply_by reply.Tested a.reply) opened in
      ap (λ a. a.after) opened ∙ left (is_exhausted s) replied
    where
      issued : Bool → Replied Bool T
      issued t = if t then record { reply = Err Exhausted; after = s } else answer true (append x s)

      tested : Bool → SharedReply T
      tested answer = reply.Tested answer

      left : (t : Bool) → tested b ≡ reply_by tested (issued t).reply → (issued t).after ≡ append x s
      left true h = absurd (cc)
      left false h = refl

  pub added : (x : T) (old new : Core T) (s : SharedFlowState T) → StandsFor old s → IsUnread s → StandsFor new (append x s)
      → latest_of new ≡ with_reading x (latest_of old)
  added x old new s stands unread longer =
      let most : new.config.replay ≡ s.config.replay = ap (λ c. c.replay) longer.config in
      let replay : s.config.replay ≡ old.config.replay = sym (ap (λ c. c.replay) stands.config) in
      let list : (latest_of new).values ≡ last old.config.replay ((latest_of old).values ++ x ∷ []) =
      kept new (append x s) longer (unread_after x s unread) ∙ cache_after x s unread
      ∙ ap (λ n. last n (cache s ++ x ∷ [])) replay
      ∙ ap (λ l. last old.config.replay (l ++ x ∷ [])) (sym (kept old s stands unread)) in
      λ i. record { most = (most ∙ replay) i; values = list i }

  -- the replay cache that a call returned is the list of readings
  pub latest_is : {A : Type 0} (core : Core T) (s : SharedFlowState T) (result : Result (Vec T A) FlowFault) → StandsFor core s → IsUnread s
      → Replies s call.ReplayCache (cache_reply result) → IfOk result (λ latest. latest.items ≡ (latest_of core).values)
  latest_is core s (Err fault) stands unread said = tt
  latest_is core s (Ok latest) stands unread said = same latest.items (cache s) said ∙ sym (kept core s stands unread)
    where
      same : (xs ys : List T) → ◌≡◌ {A = SharedReply T} (reply.Cached xs) (reply.Cached ys) → xs ≡ ys
      same xs ys e = cc
