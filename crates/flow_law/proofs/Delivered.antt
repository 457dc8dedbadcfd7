-- What a subscriber receives in a legal history.
use Rattle.std.proofs.Common.{inl, inr, ◌≡◌, ◌≢◌, ℕ, ◌+◌, ◌<◌, ◌≤◌, Bool, true, false, not, ◌==◌, ◌&&◌, cond, List, [], ◌∷◌, ◌++◌, length, map, Option, Some, None, refl, sym, ap, ◌∙◌, subst, arith, append_assoc}
use Rattle.std.specs.Prelude.{nat_lt, filter}
use Rattle.std.proofs.lemmas.Bool.{cond_both}
use Rattle.std.proofs.lemmas.Bool.Decides.{nat_tests}
use Rattle.flow_law.specs.declared.config.Config.{Config}
use Rattle.flow_law.specs.declared.config.Overflow.{Overflow}
use Rattle.flow_law.specs.declared.config.Overflow.TheVariants.{Suspend, DropOldest, DropLatest}
use Rattle.flow_law.specs.declared.fault.FlowFault.TheVariants.{NeedsBuffer, TooLarge}
use Rattle.flow_law.specs.flow.SharedFlow.{SharedFlowState, first_state, capacity, config_fault, largest_capacity, needs_no_buffer, is_offered_as, stand_at}
use Rattle.flow_law.specs.flow.SharedStep.{withdraw, advance, leave}
use Rattle.flow_law.specs.flow.SharedHistory.{History, after, shared_after_all, state_after, IsLegalFrom, IsLegalShared}
use Rattle.flow_law.specs.flow.Mailbox.{Mailbox, Beginning, mailbox_by, mailbox_from, received_by, received, began_by, began_from}
use Rattle.flow_law.specs.laws.Laws.{Delivers}
use Rattle.flow_law.proofs.Moves.{Keeps, event_keeps, history_keeps}
use Rattle.flow_law.proofs.Sound.{Sound, sound_keeps, opened_sound, always_sound}
use Rattle.flow_law.proofs.Boxes.{Boxed, admit_subscribers}
use Rattle.flow_law.proofs.MailboxSteps.{event_good}

-- a flow that drops the oldest values has a buffer
usable_from : (o : Overflow) (c : ℕ) → ((c == 0) && not (needs_no_buffer o)) ≡ false → o ≡ DropOldest → 0 < c
usable_from Suspend c e f = absurd (cc)
usable_from DropLatest c e f = absurd (cc)
usable_from DropOldest c e f = grind (arith, nat_tests, e)

pub usable : (config : Config) → config_fault config ≡ None → config.overflow ≡ DropOldest → 0 < config.replay + config.extra
usable config = cond_both (nat_lt largest_capacity (config.replay + config.extra)) (Some TooLarge) _ (λ o. o ≡ None → config.overflow ≡ DropOldest → 0 < config.replay + config.extra)
    (λ _ e. absurd (cc))
    (λ _. cond_both ((config.replay + config.extra == 0) && not (needs_no_buffer config.overflow)) (Some NeedsBuffer) None (λ o. o ≡ None → config.overflow ≡ DropOldest → 0 < config.replay + config.extra)
    (λ _ e. absurd (cc))
    (λ f _. usable_from config.overflow (config.replay + config.extra) f))

module _ {T : Type 0} where
  -- no call changes the configuration
  config_keeps : (config : Config) (s : SharedFlowState T) → s.config ≡ config → Keeps (λ t. t.config ≡ config) s
  config_keeps config s h = record {
    appends = λ v _. h;
    suspends = λ v _ _. h;
    drops = λ v _ _. h;
    withdraws = λ e. (admit_subscribers (withdraw e s) (withdraw e s).queue).1 ∙ cond_both (is_offered_as e s) (record s { subscribers = map (stand_at (length s.emitted)) s.subscribers }) (record s { queue = filter (λ q. not (q.number == e)) s.queue }) (λ t. t.config ≡ config) (λ _. h) (λ _. h);
    advances = λ u p v _ _. (admit_subscribers (advance u (p + 1) s) s.queue).1 ∙ h;
    leaves = λ u. (admit_subscribers (leave u s) s.queue).1 ∙ h;
    enrolls = λ _. h;
    takes_own = λ _ _ _ _. h;
    forgets = h;
  }

  follow : (u : ℕ) (b : Beginning T) (config : Config) (s : SharedFlowState T) (m : Mailbox T) (h : History T) → config_fault config ≡ None → s.config ≡ config → Sound s → Boxed u s m b → IsLegalFrom s h
      → Boxed u (shared_after_all s h) (mailbox_from u s h m) (began_from u s h b) × ((mailbox_from u s h m).taken ≡ m.taken ++ received u h)
  follow u b config s m [] ok is sound boxed legal = (boxed, sym (Rattle.std.proofs.Common.append-nil m.taken))
  follow u b config s m (e ∷ es) ok is sound boxed legal =
      let fits : s.config.overflow ≡ DropOldest → 0 < capacity s = λ o. subst (λ (g : Config). 0 < g.replay + g.extra) (sym is) (usable config ok (ap (λ (g : Config). g.overflow) (sym is) ∙ o)) in
      let step = event_good u b s m sound fits boxed e.what.call e.what.reply legal.0 in
      let rest = follow u (began_by u s e.what.call e.what.reply b) config (after s e.what.call e.what.reply) (mailbox_by u s e.what.call e.what.reply m) es ok
      (event_keeps (λ t. t.config ≡ config) s is (config_keeps config s is) e.what.call e.what.reply)
      (event_keeps Sound s sound (sound_keeps s sound) e.what.call e.what.reply) step.0 legal.1 in
      (rest.0, rest.1 ∙ ap (λ l. l ++ received u es) step.1 ∙ append_assoc m.taken (received_by u e.what.call e.what.reply) (received u es))

  pub delivers : (config : Config) (h : History T) → IsLegalShared config h → (u : ℕ) → Delivers u config h
  delivers config h legal u =
      let empty : Mailbox T = record { taken = []; own = []; box = [] } in
      let nothing : Beginning T = record { first = []; entry = 0 } in
      let start : Boxed u (first_state config) empty nothing = record { own = λ p e. absurd (cc); rest = λ p e. absurd (cc); whole = λ _ _ p e. absurd (cc); fresh = λ _. refl } in
      let sound = always_sound config h in
      let all = follow u nothing config (first_state config) empty h legal.0 refl (opened_sound config) start legal.1 in
      let same : (state_after config h).config ≡ config = history_keeps (λ t. t.config ≡ config) (λ s k. config_keeps config s k) (first_state config) h refl in
      record {
        replies = all.1;
        own_left = all.0.own;
        rest = all.0.rest;
        whole = λ o c p at. (all.0.whole (λ oldest. o (ap (λ (g : Config). g.overflow) (sym same) ∙ oldest)) c p at).0;
        in_order = sound.rises;
      }
