-- A crowd: each subscriber got all values of all emitters, each emitter's in its order.
use Rattle.std.proofs.Common.{inl, inr, ◌≡◌, ◌≢◌, ◌⊎◌, ℕ, suc, ◌+◌, ◌*◌, ◌<◌, eqb, true, false, List, [], ◌∷◌, ◌++◌, length, get_or, map, refl, sym, ap, ◌∙◌, subst, arith, length-append}
use Rattle.std.specs.Prelude.{flat_map, filter}
use Rattle.std.specs.List.{AllByRecursion}
use Rattle.std.proofs.lemmas.Bool.Decides.{Decides-eqb}
use Rattle.flow_law.specs.declared.config.Overflow.TheVariants.{Suspend}
use Rattle.flow_law.specs.declared.history.Knowledge.{Knowledge}
use Rattle.flow_law.specs.declared.call.SharedCall.{SharedCall}
use Rattle.flow_law.specs.declared.call.SharedCall.TheVariants as call
use Rattle.flow_law.specs.declared.call.SharedReply.{SharedReply}
use Rattle.flow_law.specs.declared.states.SharedFlowState.{SharedFlowState}
use Rattle.flow_law.specs.history.Growth.{child_name}
use Rattle.flow_law.specs.flow.SharedHistory.{History, shared_flow}
use Rattle.flow_law.specs.laws.Accepted.{accepted_by, accepted}
use Rattle.flow_law.specs.history.Done.{total, done_by}
use Rattle.flow_law.specs.laws.Closed.{Accounts, AreAll, AreNumbered, IsClosed}
use Rattle.flow_law.specs.history.Rounds.{HasClosedHistory}
use Rattle.flow_law.proofs.ClosedLemmas.{first_and_made}
use Rattle.flow_law.proofs.DoneLemmas.{split, every_append, every_left, total-append}
use Rattle.flow_law.proofs.Names.{every_weaker, every_right}
use Rattle.flow_program.specs.declared.crowd.size.CrowdSize.{CrowdSize}
use Rattle.flow_program.specs.Callers.{Says, taken_by}
use Rattle.flow_program.specs.Crowds.{GotAll, is_within, IsSubscribing, IsMaker, HasRead, HasEmitted}
use Rattle.flow_program.specs.Numbers.{numbers_from}
use Rattle.flow_program.proofs.ReceivedLemmas.{EndsNothing, line}
use Rattle.flow_program.proofs.CallerLemmas.{emitting_ends_nothing, reading_ends_nothing, reading_gives_nothing, accepted_none, numbers_length}
use Rattle.flow_program.proofs.LineLemmas.{NoneEnded, from_one, got_all}
use Rattle.flow_program.proofs.PlaceLemmas.{every_place, at_place, total_place, length_map, one_of}
use Rattle.flow_program.proofs.NumberLemmas.{own_row, other_row, filter_flat, each_empty}

-- ---- the names of seats that were made one after the other

module _ {E : Type 0} where
  numbered_append : (name : List ℕ) (n : ℕ) (xs ys : List (Knowledge E)) → AreNumbered name n xs → AreNumbered name (n + length xs) ys → AreNumbered name n (xs ++ ys)
  numbered_append name n [] ys a b = let e : n + 0 ≡ n = omega arith in subst (λ m. AreNumbered name m ys) e b
  numbered_append name n (x ∷ xs) ys a b = (a.0, numbered_append name (suc n) xs ys a.1 (let e : n + length (x ∷ xs) ≡ suc n + length xs = omega arith in subst (λ m. AreNumbered name m ys) e b))

  numbered_place : {W : Type 0} (k : W → Knowledge E) (name : List ℕ) (m : ℕ) (ws : List W)
      → ((i : ℕ) (d : W) → i < length ws → ((k (get_or ws i d)).name ≡ child_name name (suc (m + i))) × ((k (get_or ws i d)).made ≡ 0)) → AreNumbered name m (map k ws)
  numbered_place k name m [] h = tt
  numbered_place k name m (w ∷ ws) h = (
    (let x = h 0 w (omega arith) in let e : suc (m + 0) ≡ suc m = omega arith in (x.0 ∙ ap (child_name name) e, x.1)),
    numbered_place k name (suc m) ws
        (λ i d l. let x = h (suc i) d (omega arith) in let e : suc (m + suc i) ≡ suc (suc m + i) = omega arith in (x.0 ∙ ap (child_name name) e, x.1)),
  )

-- ---- what each of them did

abbrev gives : Says ℕ → List ℕ
gives e = accepted_by e.call e.reply

subscribing_ends_nothing : (c : SharedCall ℕ) → IsSubscribing c → EndsNothing c
subscribing_ends_nothing (call.Subscribe name first) is = is
subscribing_ends_nothing (call.TryEmit v) is = absurd is
subscribing_ends_nothing (call.Emit v) is = absurd is
subscribing_ends_nothing (call.Poll e) is = absurd is
subscribing_ends_nothing (call.Cancel e) is = absurd is
subscribing_ends_nothing (call.TakeNext u) is = absurd is
subscribing_ends_nothing (call.Unsubscribe u) is = absurd is
subscribing_ends_nothing call.ReplayCache is = absurd is
subscribing_ends_nothing call.ResetReplayCache is = absurd is
subscribing_ends_nothing call.SubscriptionCount is = absurd is

subscribing_gives_nothing : (c : SharedCall ℕ) (r : SharedReply ℕ) → IsSubscribing c → accepted_by c r ≡ []
subscribing_gives_nothing (call.Subscribe name first) r is = refl
subscribing_gives_nothing (call.TryEmit v) r is = absurd is
subscribing_gives_nothing (call.Emit v) r is = absurd is
subscribing_gives_nothing (call.Poll e) r is = absurd is
subscribing_gives_nothing (call.Cancel e) r is = absurd is
subscribing_gives_nothing (call.TakeNext u) r is = absurd is
subscribing_gives_nothing (call.Unsubscribe u) r is = absurd is
subscribing_gives_nothing call.ReplayCache r is = absurd is
subscribing_gives_nothing call.ResetReplayCache r is = absurd is
subscribing_gives_nothing call.SubscriptionCount r is = absurd is

-- the calls and the name of the i-th emitter, which emits n values
emitter_did : (i n : ℕ) (k : Knowledge (Says ℕ)) (e : HasEmitted n i k) → done_by k ≡ e.0
emitter_did i n k e = e.1.done

emitter_name : (i n : ℕ) (k : Knowledge (Says ℕ)) → HasEmitted n i k → k.name ≡ child_name [] (suc (0 + i))
emitter_name i n k e = e.1.name ∙ ap (child_name []) (let z : 0 + i + 1 ≡ suc (0 + i) = omega arith in z)

emitter_gave : (i n : ℕ) (k : Knowledge (Says ℕ)) → HasEmitted n i k → accepted (done_by k) ≡ numbers_from (i * n) n
emitter_gave i n k e = ap accepted (emitter_did i n k e) ∙ e.3

-- the values that an event gives to the flow, as far as they are those of the i-th emitter
abbrev gives_within : ℕ → ℕ → Says ℕ → List ℕ
gives_within i n e = filter (is_within (i * n) n) (gives e)

nothing_within : (i n : ℕ) (es : List (Says ℕ)) → AllByRecursion (λ (e : Says ℕ). gives e ≡ []) es → AllByRecursion (λ (e : Says ℕ). gives_within i n e ≡ []) es
nothing_within i n = every_weaker (λ (e : Says ℕ). gives e ≡ []) (λ (e : Says ℕ). gives_within i n e ≡ []) (λ e none. ap (filter (is_within (i * n) n)) none)

emitter_gave_own : (i n : ℕ) (k : Knowledge (Says ℕ)) → HasEmitted n i k → flat_map (gives_within i n) (done_by k) ≡ numbers_from (i * n) n
emitter_gave_own i n k e = sym (filter_flat (is_within (i * n) n) gives (done_by k)) ∙ ap (filter (is_within (i * n) n)) (emitter_gave i n k e) ∙ own_row (i * n) n

emitter_gave_no_other : (i j n : ℕ) (k : Knowledge (Says ℕ)) → HasEmitted n j k → j ≢ i → AllByRecursion (λ (e : Says ℕ). gives_within i n e ≡ []) (done_by k)
emitter_gave_no_other i j n k e ne = each_empty (gives_within i n) (done_by k)
    (sym (filter_flat (is_within (i * n) n) gives (done_by k)) ∙ ap (filter (is_within (i * n) n)) (emitter_gave j n k e) ∙ other_row i j n ne)

-- ---- all of them

module _ {W Z : Type 0} (ke : W → Knowledge (Says ℕ)) (kr : Z → Knowledge (Says ℕ)) (first : SharedFlowState ℕ) (suspends : first.config.overflow ≡ Suspend) (room : 0 < first.config.replay + first.config.extra)
    (n : ℕ) (maker : Knowledge (Says ℕ)) (es : List W) (rs : List Z) (made : IsMaker maker) (children : maker.made ≡ length es + length rs)
    (emitted : (i : ℕ) (d : W) → i < length es → HasEmitted n i (ke (get_or es i d)))
    (read : (i : ℕ) (d : Z) → i < length rs → (u : ℕ) × (xs : List ℕ) × HasRead (done_by maker) (length es + i) u xs (kr (get_or rs i d))) where
  abbrev others : List (Knowledge (Says ℕ))
  others = map ke es ++ map kr rs

  abbrev all : List (Knowledge (Says ℕ))
  all = maker ∷ others

  abbrev Every : (Knowledge (Says ℕ) → Type 0) → Type 0
  Every P = AllByRecursion P others

  -- what holds of each emitter and of each subscriber
  each_other : (P : Knowledge (Says ℕ) → Type 0) → ((i : ℕ) (d : W) → i < length es → P (ke (get_or es i d))) → ((i : ℕ) (d : Z) → i < length rs → P (kr (get_or rs i d))) → Every P
  each_other P a b = every_append P (map ke es) (map kr rs) (every_place ke P es a) (every_place kr P rs b)

  are_all : AreAll all
  are_all =
      let lr : length (map kr rs) ≡ length rs = length_map kr rs in let le : length (map ke es) ≡ length es = length_map ke es in
      let la : length others ≡ length (map ke es) + length (map kr rs) = length-append (map ke es) (map kr rs) in
      first_and_made maker others made.name (children ∙ (let z : length es + length rs ≡ length others = omega arith in z))
      (numbered_append [] 0 (map ke es) (map kr rs)
      (numbered_place ke [] 0 es (λ i d l. let e = emitted i d l in (emitter_name i n (ke (get_or es i d)) e, e.1.made)))
      (subst (λ m. AreNumbered [] m (map kr rs)) (let z : length es ≡ 0 + length (map ke es) = omega arith in z)
      (numbered_place kr [] (length es) rs (λ i d l. let r = read i d l in (r.2.name, r.2.made)))))

  maker_gave_nothing : AllByRecursion (λ (e : Says ℕ). gives e ≡ []) (done_by maker)
  maker_gave_nothing = every_weaker (λ (e : Says ℕ). IsSubscribing e.call) (λ (e : Says ℕ). gives e ≡ []) (λ e is. subscribing_gives_nothing e.call e.reply is) (done_by maker) made.did

  reader_gave_nothing : (i : ℕ) (d : Z) → i < length rs → AllByRecursion (λ (e : Says ℕ). gives e ≡ []) (done_by (kr (get_or rs i d)))
  reader_gave_nothing i d l = let r = read i d l in reading_gives_nothing r.0 (done_by (kr (get_or rs i d))) r.2.only

  none_ended : NoneEnded all
  none_ended = (
    every_weaker (λ (e : Says ℕ). IsSubscribing e.call) (λ (e : Says ℕ). EndsNothing e.call) (λ e is. subscribing_ends_nothing e.call is) (done_by maker) made.did,
    each_other (λ (k : Knowledge (Says ℕ)). AllByRecursion (λ (e : Says ℕ). EndsNothing e.call) (done_by k))
        (λ i d l. let e = emitted i d l in subst (AllByRecursion (λ (e : Says ℕ). EndsNothing e.call)) (sym (emitter_did i n (ke (get_or es i d)) e)) (emitting_ends_nothing e.0 e.2))
        (λ i d l. let r = read i d l in reading_ends_nothing r.0 (done_by (kr (get_or rs i d))) r.2.only),
  )

  abbrev gave : Knowledge (Says ℕ) → ℕ
  gave k = length (accepted (done_by k))

  -- as many values as all emitters emit
  gave_in_all : total gave all ≡ length es * n
  gave_in_all =
      let m : gave maker ≡ 0 = ap length (accepted_none (done_by maker) maker_gave_nothing) in
      let e : total gave (map ke es) ≡ length es * n = total_place ke gave n es (λ i d l. ap length (emitter_gave i n (ke (get_or es i d)) (emitted i d l)) ∙ numbers_length (i * n) n) in
      let r : total gave (map kr rs) ≡ length rs * 0 = total_place kr gave 0 rs (λ i d l. ap length (accepted_none (done_by (kr (get_or rs i d))) (reader_gave_nothing i d l))) in
      let z : length rs * 0 ≡ 0 = grind arith in
      let s : total gave others ≡ total gave (map ke es) + total gave (map kr rs) = total-append gave (map ke es) (map kr rs) in
      omega arith

  module _ (h : History ℕ) (closed : IsClosed h all) where
    emitters_account : AllByRecursion (Accounts h) (map ke es)
    emitters_account = every_left (Accounts h) (map ke es) (map kr rs) closed.1

    readers_account : AllByRecursion (Accounts h) (map kr rs)
    readers_account = every_right (Accounts h) (map ke es) (map kr rs) closed.1

    -- of the values that the flow accepted, those of one emitter are what it emitted
    line_within : (i : ℕ) → i < length es → filter (is_within (i * n) n) (line h) ≡ numbers_from (i * n) n
    line_within i l =
        let d = one_of es (omega arith) in let k = ke (get_or es i d) in let mine = emitted i d l in
        filter_flat (is_within (i * n) n) gives (map (λ e. e.what) h)
        ∙ from_one all h are_all closed (gives_within i n) k (at_place ke (Accounts h) es emitters_account i d l) (
          inr (nothing_within i n (done_by maker) maker_gave_nothing),
          each_other (λ (j : Knowledge (Says ℕ)). (j.name ≡ k.name) ⊎ AllByRecursion (λ (e : Says ℕ). gives_within i n e ≡ []) (done_by j))
              (λ j o m. split (eqb j i) (λ b. eqb j i ≡ b → ((ke (get_or es j o)).name ≡ k.name) ⊎ AllByRecursion (λ (e : Says ℕ). gives_within i n e ≡ []) (done_by (ke (get_or es j o))))
              (λ t _. inl (emitter_name j n (ke (get_or es j o)) (emitted j o m) ∙ ap (λ x. child_name [] (suc (0 + x))) ((Decides-eqb j i).0 t) ∙ sym (emitter_name i n k mine)))
              (λ t _. inr (emitter_gave_no_other i j n (ke (get_or es j o)) (emitted j o m) (λ e. no_yes (sym t ∙ (Decides-eqb j i).1 e)))) refl)
              (λ j o m. inr (nothing_within i n (done_by (kr (get_or rs j o))) (reader_gave_nothing j o m))),
        )
        ∙ emitter_gave_own i n k mine
      where
        no_yes : false ≡ true → ⊥
        no_yes e = cc

  -- a subscriber that received as many values as all emitters emit got all of them, each emitter's in its order
  pub got_all_values : HasClosedHistory shared_flow first all → (size : CrowdSize) → size.emitters ≡ length es → size.values ≡ n → (i : ℕ) (d : Z) → i < length rs
      → (u : ℕ) (xs : List ℕ) → HasRead (done_by maker) (length es + i) u xs (kr (get_or rs i d)) → length xs ≡ length es * n → GotAll size xs
  got_all_values ended size emitters values i d l u xs r count =
      let k = kr (get_or rs i d) in let h = ended.0 in let closed = ended.2 in
      let enough : length (taken_by u (done_by k)) ≡ length es * n = ap length r.taken ∙ count in let gave = gave_in_all in
      let whole : xs ≡ line h = sym r.taken ∙ got_all all h are_all closed first ended.1 suspends room none_ended maker k u closed.0
      (at_place kr (Accounts h) rs (readers_account h closed) i d l) r.subscribed (omega arith) in record {
        count = count ∙ sym (λ j. emitters j * values j);
        in_order = λ j m. subst (λ v. filter (is_within (j * v) v) xs ≡ numbers_from (j * v) v) (sym values)
            (ap (filter (is_within (j * n) n)) whole ∙ line_within h closed j (omega arith));
      }
