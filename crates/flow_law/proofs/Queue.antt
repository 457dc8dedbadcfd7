-- The queue of a shared flow: empty if the flow is not blocked, and under each strategy except Suspend.
use Rattle.std.proofs.Common.{◌≡◌, ℕ, ◌+◌, Bool, not, ◌==◌, List, [], ◌∷◌, ◌++◌, length, map, refl, sym, ap, ◌∙◌, subst}
use Rattle.std.specs.Prelude.{filter, nat_le}
use Rattle.std.proofs.lemmas.Bool.{cond_both, or_parts, both_ways}
use Rattle.std.proofs.lemmas.List.Folds.{list_any-append}
use Rattle.flow_law.specs.declared.config.Config.{Config}
use Rattle.flow_law.specs.declared.config.Overflow.{Overflow}
use Rattle.flow_law.specs.declared.config.Overflow.TheVariants.{Suspend, DropOldest, DropLatest}
use Rattle.flow_law.specs.flow.SharedFlow.{Numbered, SharedFlowState, first_state, is_blocked, is_offered_as, lag, window, stand_at, entry}
use Rattle.flow_law.specs.flow.SharedStep.{admit, settle, withdraw, advance, leave}
use Rattle.flow_law.specs.flow.SharedHistory.{History, state_after}
use Rattle.flow_law.specs.laws.Laws.{NoIdleQueue}
use Rattle.flow_law.proofs.Moves.{Keeps, history_keeps, admit_keeps}
use Rattle.flow_law.proofs.Rows.{any-with_own}

-- only a flow that suspends has a queue
abbrev pub OnlySuspends : {X : Type 0} → Overflow → List X → Type 0
OnlySuspends Suspend q = Unit {0}
OnlySuspends DropOldest q = q ≡ []
OnlySuspends DropLatest q = q ≡ []

module _ {X : Type 0} where
  pub fits_shorter : (o : Overflow) (x : X) (q r : List X) → OnlySuspends o (x ∷ q) → OnlySuspends o r
  fits_shorter Suspend x q r h = tt
  fits_shorter DropOldest x q r h = absurd (cc)
  fits_shorter DropLatest x q r h = absurd (cc)

  pub fits_filter : (o : Overflow) (p : X → Bool) (q : List X) → OnlySuspends o q → OnlySuspends o (filter p q)
  fits_filter Suspend p q h = tt
  fits_filter DropOldest p q h = ap (filter p) h
  fits_filter DropLatest p q h = ap (filter p) h

  pub fits_suspend : (o : Overflow) (q : List X) → o ≡ Suspend → OnlySuspends o q
  fits_suspend o q e = subst (λ o. OnlySuspends o q) (sym e) tt

  pub fits_drops : (o : Overflow) (q : List X) → o ≡ DropOldest → OnlySuspends o q → q ≡ []
  fits_drops o q e h = subst (λ o. OnlySuspends o q) e h

pub opened_fits : (X : Type 0) (o : Overflow) → OnlySuspends {X = X} o []
opened_fits X Suspend = tt
opened_fits X DropOldest = refl
opened_fits X DropLatest = refl

module _ {T : Type 0} where
  pub record Calm (s : SharedFlowState T) : Type 0 where
    pub fits : OnlySuspends s.config.overflow s.queue
    pub idle : NoIdleQueue s

  pub admit_idle : (s : SharedFlowState T) (q : List (Numbered T)) → NoIdleQueue (admit s q)
  admit_idle s [] = λ _. refl
  admit_idle s (e ∷ q) = cond_both (is_blocked s) (record s { queue = e ∷ q }) (admit (record s { emitted = s.emitted ++ e ∷ [] }) q) NoIdleQueue
      (λ b free. absurd (both_ways (is_blocked s) free b))
      (λ _. admit_idle (record s { emitted = s.emitted ++ e ∷ [] }) q)

  pub settle_calm : (s : SharedFlowState T) → OnlySuspends s.config.overflow s.queue → Calm (settle s)
  settle_calm s h = record {
    fits = admit_keeps (λ t. OnlySuspends t.config.overflow t.queue) (λ t e q _ g. fits_shorter t.config.overflow e q q g) s s.queue h;
    idle = admit_idle s s.queue;
  }

  pub withdraw_fits : (e : ℕ) (s : SharedFlowState T) → OnlySuspends s.config.overflow s.queue → OnlySuspends (withdraw e s).config.overflow (withdraw e s).queue
  withdraw_fits e s h = cond_both (is_offered_as e s) (record s { subscribers = map (stand_at (length s.emitted)) s.subscribers }) (record s { queue = filter (λ q. not (q.number == e)) s.queue })
      (λ t. OnlySuspends t.config.overflow t.queue) (λ _. h) (λ _. fits_filter s.config.overflow _ s.queue h)

  pub calm_keeps : (s : SharedFlowState T) → Calm s → Keeps Calm s
  calm_keeps s h = record {
    appends = λ v free. record { fits = h.fits; idle = λ _. h.idle free };
    suspends = λ v b o. record { fits = fits_suspend s.config.overflow _ o; idle = λ free. absurd (both_ways (is_blocked s) free b) };
    drops = λ v b o. record { fits = h.fits; idle = λ _. fits_drops s.config.overflow s.queue o h.fits };
    withdraws = λ e. settle_calm (withdraw e s) (withdraw_fits e s h.fits);
    advances = λ u p v at here. settle_calm (advance u (p + 1) s) h.fits;
    leaves = λ u. settle_calm (leave u s) h.fits;
    enrolls = λ first. record {
      fits = h.fits;
      idle = λ free. h.idle (or_parts _ _ (sym (list_any-append (λ u. nat_le (window s) (lag s u)) s.subscribers (record { number = s.issued + 1; own = first; position = entry s } ∷ [])) ∙ free)).0;
    };
    takes_own = λ u v own _. record {
      fits = h.fits;
      idle = λ free. h.idle (sym (any-with_own (λ w. nat_le (window s) (lag s w)) u own (λ _. refl) s.subscribers) ∙ free);
    };
    forgets = record { fits = h.fits; idle = h.idle };
  }

  pub always_calm : (config : Config) (h : History T) → Calm (state_after config h)
  always_calm config h = history_keeps Calm calm_keeps (first_state config) h (record { fits = opened_fits (Numbered T) config.overflow; idle = λ _. refl })
