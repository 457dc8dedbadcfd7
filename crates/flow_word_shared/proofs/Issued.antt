-- A shared flow has issued a number for each of its subscribers, and one for each value. Begin with `emitted_few`.
use Rattle.std.proofs.Common.{◌≡◌, ℕ, suc, ◌+◌, ◌<◌, ◌≤◌, Bool, not, ◌==◌, List, [], ◌∷◌, length, map, Some, None, refl, ap, arith}
use Rattle.std.specs.Prelude.{filter}
use Rattle.std.proofs.lemmas.Bool.{cond_both}
use Rattle.std.proofs.lemmas.List.{length-map, length_push}
use Rattle.flow_law.specs.declared.config.Config.{Config}
use Rattle.flow_law.specs.declared.states.Subscriber.{Subscriber}
use Rattle.flow_law.specs.declared.states.SharedFlowState.{SharedFlowState}
use Rattle.flow_law.specs.flow.SharedFlow.{first_state, entry, is_offered_as, leave_own, position_of, stand_at, with_own}
use Rattle.flow_law.specs.flow.EmitRule.{numbered, append, drop_oldest}
use Rattle.flow_law.specs.flow.SharedStep.{settle, withdraw, advance, leave}
use Rattle.flow_law.specs.flow.SharedHistory.{History, shared_after_all}
use Rattle.flow_law.proofs.Moves.{Keeps, history_keeps, admit_keeps}
use Rattle.flow_word_shared.proofs.Oldest.{length-move_to}

fewer : {X : Type 0} (p : X → Bool) (xs : List X) → length (filter p xs) ≤ length xs
fewer p [] = omega arith
fewer p (x ∷ xs) = let less = fewer p xs in cond_both (p x) (x ∷ filter p xs) (filter p xs) (λ ys. length ys ≤ suc (length xs)) (λ _. omega (arith, less)) (λ _. omega (arith, less))

module _ {T : Type 0} where
  -- the flow has issued a number for each value and each subscriber
  abbrev Enough : SharedFlowState T → Type 0
  Enough s = length s.emitted + length s.queue + length s.subscribers ≤ s.issued

  length-with_own : (u : ℕ) (own : List T) (us : List (Subscriber T)) → length (with_own u own us) ≡ length us
  length-with_own u own [] = refl
  length-with_own u own (x ∷ us) = cond_both (x.number == u) (leave_own own x ∷ us) (x ∷ with_own u own us) (λ vs. length vs ≡ suc (length us)) (λ _. refl) (λ _. ap suc (length-with_own u own us))

  settled : (s : SharedFlowState T) → Enough s → Enough (settle s)
  settled s h = admit_keeps Enough (λ t e q _ k. let more = length_push t.emitted e in omega (arith, k, more)) s s.queue h

  keeps : (s : SharedFlowState T) → Enough s → Keeps Enough s
  keeps s h = record {
    appends = λ v _. let more = length_push s.emitted (numbered v s) in omega (arith, h, more);
    suspends = λ v _ _. let more = length_push s.queue (numbered v s) in omega (arith, h, more);
    drops = λ v _ _. let more = length_push s.emitted (numbered v s) in let same : length (drop_oldest (append v s)).subscribers ≡ length s.subscribers = length-map s.subscribers _ in omega (arith, h, more, same);
    withdraws = λ e. settled (withdraw e s)
        (cond_both (is_offered_as e s) (record s { subscribers = map (stand_at (length s.emitted)) s.subscribers }) (record s { queue = filter (λ q. not (q.number == e)) s.queue }) Enough
        (λ _. let same = length-map s.subscribers (stand_at (length s.emitted)) in omega (arith, h, same)) (λ _. let less = fewer (λ q. not (q.number == e)) s.queue in omega (arith, h, less)));
    advances = λ u p v _ _. settled (advance u (p + 1) s) (let same = length-move_to u (p + 1) s.subscribers in omega (arith, h, same));
    leaves = λ u. settled (leave u s) (let less = fewer (λ (x : Subscriber T). not (x.number == u)) s.subscribers in omega (arith, h, less));
    enrolls = λ first. let more = length_push s.subscribers (record { number = s.issued + 1; own = first; position = entry s }) in omega (arith, h, more);
    takes_own = λ u v own _. let same = length-with_own u own s.subscribers in omega (arith, h, same);
    forgets = h;
  }

  some_row : (u p : ℕ) (us : List (Subscriber T)) → position_of u us ≡ Some p → 0 < length us
  some_row u p [] e = let no : None ≡ Some p = e in absurd (cc)
  some_row u p (x ∷ us) e = omega arith

  -- while the flow has a subscriber, it has emitted fewer values than it has issued numbers
  pub emitted_few : (config : Config) (h : History T) (u p : ℕ) → position_of u (shared_after_all (first_state config) h).subscribers ≡ Some p
      → length (shared_after_all (first_state config) h).emitted < (shared_after_all (first_state config) h).issued
  emitted_few config h u p at =
      let enough : Enough (shared_after_all (first_state config) h) = history_keeps Enough keeps (first_state config) h (omega arith) in
      let some = some_row u p (shared_after_all (first_state config) h).subscribers at in omega (arith, enough, some)
