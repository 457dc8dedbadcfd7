-- The values that a flow accepted, in a closed history: which of them each subscriber received, and which each emitter gave.
use Rattle.std.proofs.Common.{inl, inr, ◌≡◌, ◌⊎◌, ⊎_elim, ℕ, ◌+◌, ◌<◌, ◌≤◌, List, [], ◌∷◌, length, map, refl, sym, ap, ◌∙◌, subst, arith, length-append}
use Rattle.std.specs.Prelude.{flat_map}
use Rattle.std.specs.List.{AllByRecursion}
use Rattle.flow_law.specs.declared.config.Overflow.TheVariants.{Suspend}
use Rattle.flow_law.specs.declared.history.HistoryEvent.{HistoryEvent}
use Rattle.flow_law.specs.declared.history.Knowledge.{Knowledge}
use Rattle.flow_law.specs.declared.states.SharedFlowState.{SharedFlowState}
use Rattle.flow_law.specs.history.History.{IsHistory}
use Rattle.flow_law.specs.flow.SharedHistory.{History, shared_flow}
use Rattle.flow_law.specs.laws.Accepted.{accepted_by, accepted}
use Rattle.flow_law.specs.history.Done.{total, said_by, done_by}
use Rattle.flow_law.specs.laws.Closed.{Accounts, AreAll, IsClosed}
use Rattle.flow_law.proofs.ClosedLemmas.{all_done, every_done, every_named}
use Rattle.flow_law.proofs.DoneLemmas.{flat_alone}
use Rattle.flow_law.proofs.Names.{every_weaker}
use Rattle.flow_program.specs.Callers.{Says, taken_by, HasSubscribed}
use Rattle.flow_program.proofs.ReceivedLemmas.{EndsNothing, line, received_all}

flat_length : {X Y : Type 0} (f : X → List Y) (xs : List X) → length (flat_map f xs) ≡ total (λ x. length (f x)) xs
flat_length f [] = refl
flat_length f (x ∷ xs) = let h : length (flat_map f xs) ≡ total (λ x. length (f x)) xs = flat_length f xs in length-append (f x) (flat_map f xs) ∙ ap (λ n. length (f x) + n) h

total_map : {X Y : Type 0} (f : Y → ℕ) (g : X → Y) (xs : List X) → total f (map g xs) ≡ total (λ x. f (g x)) xs
total_map f g [] = refl
total_map f g (x ∷ xs) = ap (λ n. f (g x) + n) (total_map f g xs)

total_by : {X : Type 0} (f g : X → ℕ) → ((x : X) → f x ≡ g x) → (xs : List X) → total f xs ≡ total g xs
total_by f g e [] = refl
total_by f g e (x ∷ xs) = let h : total f xs ≡ total g xs = total_by f g e xs in let i : f x ≡ g x = e x in omega arith

module _ {T : Type 0} where
  abbrev accepted_in : Says T → List T
  accepted_in e = accepted_by e.call e.reply

  -- no token has ended a subscription or an emission, or subscribed with first values
  abbrev pub NoneEnded : List (Knowledge (Says T)) → Type 0
  NoneEnded = AllByRecursion (λ (k : Knowledge (Says T)). AllByRecursion (λ (e : Says T). EndsNothing e.call) (done_by k))

  module _ (ks : List (Knowledge (Says T))) (h : History T) (all : AreAll ks) (closed : IsClosed h ks) where
    -- the flow accepted as many values as the tokens gave
    pub line_length : length (line h) ≡ total (λ (k : Knowledge (Says T)). length (accepted (done_by k))) ks
    line_length = flat_length accepted_in (map (λ e. e.what) h) ∙ total_map (λ (e : Says T). length (accepted_in e)) (λ (e : HistoryEvent (Says T)). e.what) h
        ∙ (all_done ks h all closed).sums (λ (e : Says T). length (accepted_in e))
        ∙ total_by (λ (k : Knowledge (Says T)). total (λ (e : Says T). length (accepted_in e)) (done_by k)) (λ (k : Knowledge (Says T)). length (accepted (done_by k))) (λ k. sym (flat_length accepted_in (done_by k))) ks

    -- if what the other tokens did gives nothing, all that was done gives what this token did
    pub from_one : (f : Says T → List T) (k : Knowledge (Says T)) → Accounts h k
        → AllByRecursion (λ (j : Knowledge (Says T)). (j.name ≡ k.name) ⊎ AllByRecursion (λ (e : Says T). f e ≡ []) (done_by j)) ks
        → flat_map f (map (λ e. e.what) h) ≡ flat_map f (done_by k)
    from_one f k mine others =
        flat_alone f k.name h (every_named (λ name e. (name ≡ k.name) ⊎ (f e ≡ [])) ks h all closed
        (every_weaker (λ (j : Knowledge (Says T)). (j.name ≡ k.name) ⊎ AllByRecursion (λ (e : Says T). f e ≡ []) (done_by j)) (λ (j : Knowledge (Says T)). AllByRecursion (λ (e : Says T). (j.name ≡ k.name) ⊎ (f e ≡ [])) (done_by j))
        (λ j o. ⊎_elim (λ same. every_same j.name (done_by j) same) (λ none. every_weaker (λ (e : Says T). f e ≡ []) (λ (e : Says T). (j.name ≡ k.name) ⊎ (f e ≡ [])) (λ e n. inr n) (done_by j) none) o) ks others))
        ∙ ap (flat_map f) mine.done
      where
        every_same : (n : List ℕ) (xs : List (Says T)) → n ≡ k.name → AllByRecursion (λ (e : Says T). (n ≡ k.name) ⊎ (f e ≡ [])) xs
        every_same n [] same = tt
        every_same n (x ∷ xs) same = (inl same, every_same n xs same)

    -- a subscriber that received as many values as the tokens gave received exactly these
    pub got_all : (first : SharedFlowState T) → IsHistory shared_flow first h → first.config.overflow ≡ Suspend → 0 < first.config.replay + first.config.extra → NoneEnded ks
        → (maker reader : Knowledge (Says T)) (u : ℕ) → Accounts h maker → Accounts h reader → HasSubscribed reader.name u (done_by maker)
        → total (λ (k : Knowledge (Says T)). length (accepted (done_by k))) ks ≤ length (taken_by u (done_by reader)) → taken_by u (done_by reader) ≡ line h
    got_all first is suspends room ended maker reader u made read has enough =
        let e : taken_by u (said_by reader.name h) ≡ taken_by u (done_by reader) = ap (taken_by u) read.done in
        let l : length (line h) ≤ length (taken_by u (said_by reader.name h)) = (let a = line_length in let b : length (taken_by u (said_by reader.name h)) ≡ length (taken_by u (done_by reader)) = ap length e in omega arith) in
        sym e ∙ received_all first h is suspends room (every_done (λ (e : Says T). EndsNothing e.call) ks h all closed ended) maker.name reader.name u (subst (HasSubscribed reader.name u) (sym made.done) has) l
