-- A subscriber that has left a shared flow stays gone: its number is not issued again. Begin with `gone_later`.
use Rattle.std.proofs.Common.{◌≡◌, ℕ, ◌+◌, ◌-◌, not, ◌==◌, cond, List, [], ◌∷◌, length, map, Some, None, refl, sym, ap, ◌∙◌, ne_eqb, arith}
use Rattle.std.specs.Prelude.{max, filter}
use Rattle.std.proofs.lemmas.Bool.{cond_both}
use mathlib.Core.Logic.{dite}
use native.Mathlib.Decide.{ℕ_discrete}
use Rattle.flow_law.specs.declared.states.Subscriber.{Subscriber}
use Rattle.flow_law.specs.declared.states.SharedFlowState.{SharedFlowState}
use Rattle.flow_law.specs.flow.SharedFlow.{capacity, entry, is_offered_as, position_of, stand_at, without}
use Rattle.flow_law.specs.flow.EmitRule.{append}
use Rattle.flow_law.specs.flow.SharedStep.{settle, withdraw, advance, leave}
use Rattle.flow_law.specs.flow.SharedHistory.{History, shared_after_all}
use Rattle.flow_word_shared.specs.Steps.{IsGone}
use Rattle.flow_law.proofs.Moves.{Keeps, history_keeps, admit_keeps}
use Rattle.flow_law.proofs.Rows.{split, position-move_to_other, position-without, position-without_other, position-snoc_other, position-with_own}

module _ {T : Type 0} (n : ℕ) where
  abbrev pub Gone : SharedFlowState T → Type 0
  Gone = IsGone n

  raised_none : (f : Subscriber T → ℕ) (us : List (Subscriber T)) → position_of n us ≡ None → position_of n (map (λ u. stand_at (f u) u) us) ≡ None
  raised_none f [] e = refl
  raised_none f (u ∷ us) e = split (u.number == n) (λ t. cond t (Some u.position) (position_of n us) ≡ None → cond t (Some (f u)) (position_of n (map (λ u. stand_at (f u) u) us)) ≡ None)
      (λ _ e. absurd (cc)) (λ _ e. raised_none f us e) e

  without_none : (u : ℕ) (us : List (Subscriber T)) → position_of n us ≡ None → position_of n (without u us) ≡ None
  without_none u us e = dite (ℕ_discrete u n)
      (λ same. ap (λ k. position_of n (without k us)) same ∙ position-without n us)
      (λ ne. position-without_other n u us (ne_eqb u n ne) ∙ e)

  settle_gone : (s : SharedFlowState T) → Gone s → Gone (settle s)
  settle_gone s h = admit_keeps Gone (λ t e q _ k. k) s s.queue h

  gone_keeps : (s : SharedFlowState T) → Gone s → Keeps Gone s
  gone_keeps s h = record {
    appends = λ v _. (h.0, omega (arith, h.1));
    suspends = λ v _ _. (h.0, omega (arith, h.1));
    drops = λ v _ _. (raised_none (λ u. max u.position (length (append v s).emitted - capacity s)) s.subscribers h.0, omega (arith, h.1));
    withdraws = λ e. settle_gone (withdraw e s) (cond_both (is_offered_as e s) (record s { subscribers = map (stand_at (length s.emitted)) s.subscribers }) (record s { queue = filter (λ q. not (q.number == e)) s.queue }) Gone
        (λ _. (raised_none (λ _. length s.emitted) s.subscribers h.0, h.1)) (λ _. h));
    advances = λ u p v at here. settle_gone (advance u (p + 1) s)
        (position-move_to_other n u (p + 1) s.subscribers (ne_eqb u n (λ e. let no : None ≡ Some p = sym h.0 ∙ (ap (λ k. position_of k s.subscribers) (sym e) ∙ at) in absurd (cc))) ∙ h.0, h.1);
    leaves = λ u. settle_gone (leave u s) (without_none u s.subscribers h.0, h.1);
    enrolls = λ first. (position-snoc_other n s.subscribers (record { number = s.issued + 1; own = first; position = entry s }) (ne_eqb (s.issued + 1) n (λ e. absurd (omega (arith, e, h.1)))) ∙ h.0, omega (arith, h.1));
    takes_own = λ u v own _. (position-with_own n u own s.subscribers ∙ h.0, h.1);
    forgets = h;
  }

  pub gone_later : (s : SharedFlowState T) (h : History T) → Gone s → Gone (shared_after_all s h)
  gone_later s h g = history_keeps Gone gone_keeps s h g
