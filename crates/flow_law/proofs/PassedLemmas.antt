-- What a subscriber gets from a flow that suspends and has a buffer, if it entered before anything was emitted: the first values
-- that the flow accepted, in order.
use Rattle.std.proofs.Common.{◌⊎◌, ◌≡◌, ◌≢◌, ℕ, ◌+◌, ◌<◌, ◌≤◌, false, length, ◌==◌, List, [], ◌∷◌, ◌++◌, drop, map, Some, refl, sym, ap, ◌∙◌, subst, arith, append_assoc}
use Rattle.std.specs.List.{AllByRecursion, flat_map}
use Rattle.std.proofs.lemmas.Bool.{cond_both}
use Rattle.std.proofs.lemmas.List.{map-append}
use Rattle.flow_law.specs.declared.config.Config.{Config}
use Rattle.flow_law.specs.declared.config.Overflow.{Overflow}
use Rattle.flow_law.specs.declared.config.Overflow.TheVariants.{Suspend, DropOldest}
use Rattle.flow_law.specs.declared.call.SharedCall.{SharedCall}
use Rattle.flow_law.specs.declared.call.SharedCall.TheVariants as call
use Rattle.flow_law.specs.declared.call.SharedReply.{SharedReply}
use Rattle.flow_law.specs.declared.call.SharedReply.TheVariants as reply
use Rattle.flow_law.specs.flow.SharedFlow.{Numbered, SharedFlowState, first_state, capacity, entry, values, position_of}
use Rattle.flow_law.specs.flow.SharedHistory.{History, IsLegalShared, IsLegalFrom, shared_flow, after, state_after}
use Rattle.flow_law.specs.declared.history.Said.{Said}
use Rattle.flow_law.specs.history.Done.{said_by}
use Rattle.flow_law.specs.flow.Mailbox.{Beginning, own, box, received_by, received, began, began_by, began_from}
use Rattle.flow_law.specs.laws.Accepted.{accepted_by, accepted, is_cancel, NoneCancelled, emitted_and_queued}
use Rattle.flow_law.proofs.AcceptedLemmas.{accepts, event_adds}
use Rattle.flow_law.proofs.Delivered.{delivers}
use Rattle.flow_law.proofs.DoneLemmas.{every_left, flat_alone}
use Rattle.flow_law.proofs.Growing.{event_grown, history_grown}
use Rattle.flow_law.proofs.Moves.{event_keeps}
use Rattle.flow_law.proofs.Owners.{legal_left}
use Rattle.flow_law.proofs.Sound.{Sound, sound_keeps, opened_sound, entry_within}

suspends_not_drops : (o : Overflow) → o ≡ Suspend → o ≢ DropOldest
suspends_not_drops o e f = absurd (cc)

module _ {T : Type 0} where
  -- a subscription in this state has no first values and enters at the first value of the flow
  abbrev pub EntersFirst : SharedFlowState T → SharedCall T → Type 0
  EntersFirst s (call.Subscribe name first) = (first ≡ []) × (entry s ≡ 0)
  EntersFirst s _ = Unit {0}

  -- each subscriber does so
  abbrev pub AllEnterFirst : SharedFlowState T → History T → Type 0
  AllEnterFirst s [] = Unit {0}
  AllEnterFirst s (e ∷ es) = EntersFirst s e.what.call × AllEnterFirst (after s e.what.call e.what.reply) es

  abbrev at_first : Beginning T
  at_first = record { first = []; entry = 0 }

  same_beginning : (first : List T) (n : ℕ) → first ≡ [] → n ≡ 0 → record { first = first; entry = n } ≡ at_first
  same_beginning first n e f = ap (λ (l : List T). record { first = l; entry = n }) e ∙ ap (λ (m : ℕ). record { first = []; entry = m }) f

  event_first : (u : ℕ) (s : SharedFlowState T) (c : SharedCall T) (r : SharedReply T) → EntersFirst s c → began_by u s c r at_first ≡ at_first
  event_first u s (call.Subscribe name first) (reply.Subscribed n) h = cond_both (n == u) (record { first = first; entry = entry s }) at_first (λ b. b ≡ at_first) (λ _. same_beginning first (entry s) h.0 h.1) (λ _. refl)
  event_first u s (call.Subscribe name first) (reply.Emitted n) h = refl
  event_first u s (call.Subscribe name first) (reply.Tested n) h = refl
  event_first u s (call.Subscribe name first) (reply.Received n) h = refl
  event_first u s (call.Subscribe name first) (reply.Cached n) h = refl
  event_first u s (call.Subscribe name first) reply.Reset h = refl
  event_first u s (call.Subscribe name first) (reply.Counted n) h = refl
  event_first u s (call.Subscribe name first) (reply.Refused n) h = refl
  event_first u s (call.TryEmit v) r h = refl
  event_first u s (call.Emit v) r h = refl
  event_first u s (call.Poll e) r h = refl
  event_first u s (call.Cancel e) r h = refl
  event_first u s (call.TakeNext n) r h = refl
  event_first u s (call.Unsubscribe n) r h = refl
  event_first u s call.ReplayCache r h = refl
  event_first u s call.ResetReplayCache r h = refl
  event_first u s call.SubscriptionCount r h = refl

  all_first : (u : ℕ) (s : SharedFlowState T) (h : History T) → AllEnterFirst s h → began_from u s h at_first ≡ at_first
  all_first u s [] a = refl
  all_first u s (e ∷ es) a = let c = e.what.call in let r = e.what.reply in
      ap (began_from u (after s c r) es) (event_first u s c r a.0) ∙ all_first u (after s c r) es a.1

  -- what a subscriber received is the beginning of what the flow accepted
  pub passed : (config : Config) (h : History T) → IsLegalShared config h → config.overflow ≡ Suspend → 0 < config.replay + config.extra → NoneCancelled h → AllEnterFirst (first_state config) h
      → (u p : ℕ) → position_of u (state_after config h).subscribers ≡ Some p → (rest : List T) × (received u h ++ rest ≡ accepted (map (λ e. e.what) h))
  passed config h legal o room kept enters u p at =
      let s = state_after config h in
      let d = delivers config h legal u in
      let same : s.config ≡ config = (history_grown (first_state config) h).config in
      let begun : began u config h ≡ at_first = all_first u (first_state config) h enters in
      let wide : 0 < capacity s = subst (λ (g : Config). 0 < g.replay + g.extra) (sym same) room in
      let queued = map (λ (e : Numbered T). e.value) s.queue in (
        (own u config h ++ box u config h) ++ queued,
        sym (append_assoc (received u h) (own u config h ++ box u config h) queued)
            ∙ ap (λ l. l ++ queued) (ap (λ l. l ++ (own u config h ++ box u config h)) (sym d.replies) ∙ d.whole (suspends_not_drops config.overflow o) wide p at ∙ ap (λ (b : Beginning T). b.first ++ drop b.entry (values s)) begun)
            ∙ sym (map-append (λ (e : Numbered T). e.value) s.emitted s.queue)
            ∙ accepts config h legal o kept,
      )

  -- ---- no subscription follows the first accepted value

  -- a subscription has no first values
  abbrev pub BringsNone : SharedCall T → Type 0
  BringsNone (call.Subscribe name first) = first ≡ []
  BringsNone _ = Unit {0}

  -- the call is no `subscribe`
  abbrev pub SubscribesNone : SharedCall T → Type 0
  SubscribesNone (call.Subscribe name first) = ⊥
  SubscribesNone _ = Unit {0}

  none_first : (xs ys : List T) → xs ++ ys ≡ [] → xs ≡ []
  none_first [] ys e = refl
  none_first (x ∷ xs) ys e = absurd (cc)

  none_second : (xs ys : List T) → xs ++ ys ≡ [] → ys ≡ []
  none_second [] ys e = e
  none_second (x ∷ xs) ys e = absurd (cc)

  none_emitted : (es q : List (Numbered T)) → map (λ (e : Numbered T). e.value) (es ++ q) ≡ [] → es ≡ []
  none_emitted [] q e = refl
  none_emitted (x ∷ es) q e = absurd (cc)

  enters_now : (s : SharedFlowState T) (c : SharedCall T) → entry s ≡ 0 → BringsNone c → EntersFirst s c
  enters_now s (call.Subscribe name first) e b = (b, e)
  enters_now s (call.TryEmit v) e b = tt
  enters_now s (call.Emit v) e b = tt
  enters_now s (call.Poll n) e b = tt
  enters_now s (call.Cancel n) e b = tt
  enters_now s (call.TakeNext n) e b = tt
  enters_now s (call.Unsubscribe n) e b = tt
  enters_now s call.ReplayCache e b = tt
  enters_now s call.ResetReplayCache e b = tt
  enters_now s call.SubscriptionCount e b = tt

  enters_no_more : (s : SharedFlowState T) (c : SharedCall T) → SubscribesNone c → EntersFirst s c
  enters_no_more s (call.Subscribe name first) b = absurd b
  enters_no_more s (call.TryEmit v) b = tt
  enters_no_more s (call.Emit v) b = tt
  enters_no_more s (call.Poll n) b = tt
  enters_no_more s (call.Cancel n) b = tt
  enters_no_more s (call.TakeNext n) b = tt
  enters_no_more s (call.Unsubscribe n) b = tt
  enters_no_more s call.ReplayCache b = tt
  enters_no_more s call.ResetReplayCache b = tt
  enters_no_more s call.SubscriptionCount b = tt

  enter_late : (s : SharedFlowState T) (h : History T) → AllByRecursion (λ e. SubscribesNone e.what.call) h → AllEnterFirst s h
  enter_late s [] a = tt
  enter_late s (e ∷ es) a = (enters_no_more s e.what.call a.0, enter_late (after s e.what.call e.what.reply) es a.1)

  -- before anything is accepted, and then without a `subscribe`
  enter_early : (s : SharedFlowState T) (h more : History T) → s.config.overflow ≡ Suspend → Sound s → IsLegalFrom s h → NoneCancelled h → emitted_and_queued s ≡ [] → accepted (map (λ e. e.what) h) ≡ []
      → AllByRecursion (λ e. BringsNone e.what.call) h → AllByRecursion (λ e. SubscribesNone e.what.call) more → AllEnterFirst s (h ++ more)
  enter_early s [] more o sound legal kept none taken brings later = enter_late s more later
  enter_early s (e ∷ es) more o sound legal kept none taken brings later =
      let c = e.what.call in let r = e.what.reply in
      let empty : length s.emitted ≡ 0 = ap length (none_emitted s.emitted s.queue none) in
      let within : entry s ≤ length s.emitted = entry_within s sound.placed.reset_mark in
      let start : entry s ≡ 0 = omega arith in (
        enters_now s c start brings.0,
        enter_early (after s c r) es more (ap (λ (g : Config). g.overflow) (event_grown s c r).config ∙ o) (event_keeps Sound s sound (sound_keeps s sound) c r) legal.1 kept.1
            (event_adds s o sound.calm.idle c r legal.0 kept.0 ∙ ap (λ l. l ++ accepted_by c r) none ∙ none_first (accepted_by c r) (accepted (map (λ e. e.what) es)) taken)
            (none_second (accepted_by c r) (accepted (map (λ e. e.what) es)) taken) brings.1 later,
      )

  -- Nothing was accepted in the first part of a history, and no subscription was made in the second one.
  pub passed_on : (config : Config) (h more : History T) → IsLegalShared config (h ++ more) → config.overflow ≡ Suspend → 0 < config.replay + config.extra → NoneCancelled (h ++ more)
      → accepted (map (λ e. e.what) h) ≡ [] → AllByRecursion (λ e. BringsNone e.what.call) h → AllByRecursion (λ e. SubscribesNone e.what.call) more
      → (u p : ℕ) → position_of u (state_after config (h ++ more)).subscribers ≡ Some p → (rest : List T) × (received u (h ++ more) ++ rest ≡ accepted (map (λ e. e.what) (h ++ more)))
  passed_on config h more legal o room kept none brings later = passed config (h ++ more) legal o room kept
      (enter_early (first_state config) h more o (opened_sound config) (legal_left shared_flow (first_state config) h more legal.1) (every_left (λ e. is_cancel e.what.call ≡ false) h more kept) refl none brings later)

  -- ---- what a subscriber received, of a list of calls

  -- the values that these calls of `next` gave to u, in order
  abbrev pub received_in : ℕ → List (Said (SharedCall T) (SharedReply T)) → List T
  received_in u = flat_map (λ (e : Said (SharedCall T) (SharedReply T)). received_by u e.call e.reply)

  pub received_is : (u : ℕ) (h : History T) → received u h ≡ received_in u (map (λ e. e.what) h)
  received_is u [] = refl
  received_is u (e ∷ es) = ap (λ l. received_by u e.what.call e.what.reply ++ l) (received_is u es)

  -- Only one token emits, and only one receives as u: what that one received begins what the other one emitted.
  pub passed_between : (u : ℕ) (h : History T) (emitter reader : List ℕ) → (rest : List T) × (received u h ++ rest ≡ accepted (map (λ e. e.what) h))
      → AllByRecursion (λ e. (e.name ≡ emitter) ⊎ (accepted_by e.what.call e.what.reply ≡ [])) h
      → AllByRecursion (λ e. (e.name ≡ reader) ⊎ (received_by u e.what.call e.what.reply ≡ [])) h
      → (rest : List T) × (received_in u (said_by reader h) ++ rest ≡ accepted (said_by emitter h))
  passed_between u h emitter reader p emits reads = (
    p.0,
    ap (λ l. l ++ p.0) (sym (received_is u h ∙ flat_alone (λ (e : Said (SharedCall T) (SharedReply T)). received_by u e.call e.reply) reader h reads))
        ∙ p.1 ∙ flat_alone (λ (e : Said (SharedCall T) (SharedReply T)). accepted_by e.call e.reply) emitter h emits,
  )
