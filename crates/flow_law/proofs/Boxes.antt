-- A subscriber's mailbox, through the history of a shared flow.
use Rattle.std.proofs.Common.{◌≡◌, ◌≢◌, ℕ, ◌+◌, ◌-◌, ◌≤◌, ◌<◌, false, cond, List, [], ◌∷◌, ◌++◌, length, map, Some, refl, sym, ap, ◌∙◌, subst, arith, append_assoc, append-nil, length-append, length-drop}
use Rattle.std.specs.Prelude.{max, drop}
use Rattle.std.proofs.lemmas.List.{map-append, length-map, length_push, drop-append-le, drop_at, drop_all, drop-drop}
use Rattle.flow_law.specs.declared.config.Config.{Config}
use Rattle.flow_law.specs.declared.config.Overflow.TheVariants.{DropOldest}
use Rattle.flow_law.specs.flow.SharedFlow.{Numbered, SharedFlowState, capacity, values, is_blocked, window, position_of, own_of}
use Rattle.flow_law.specs.flow.EmitRule.{append, drop_oldest, numbered}
use Rattle.flow_law.specs.flow.SharedStep.{admit, settle}
use Rattle.flow_law.specs.flow.Mailbox.{Mailbox, Beginning, keep_last, arrive, arrivals, with_arrivals}
use Rattle.flow_law.proofs.Rows.{split, position_holds, position-map, own-map, lag_below}
use Rattle.flow_law.proofs.Sound.{Placed}

some_same : {A : Type 0} (a b : A) → Some a ≡ Some b → a ≡ b
some_same a b e = cc

append_third : {A : Type 0} (a b c d : List A) → (a ++ (b ++ c)) ++ d ≡ a ++ (b ++ (c ++ d))
append_third a b c d = append_assoc a (b ++ c) d ∙ ap (λ l. a ++ l) (append_assoc b c d)

module _ {T : Type 0} where
  -- the mailbox m is that of u in the state s, and b is what u began with
  pub record Boxed (u : ℕ) (s : SharedFlowState T) (m : Mailbox T) (b : Beginning T) : Type 0 where
    pub own : (p : ℕ) → position_of u s.subscribers ≡ Some p → own_of u s.subscribers ≡ m.own
    pub rest : (p : ℕ) → position_of u s.subscribers ≡ Some p → drop p (values s) ≡ m.box
    pub whole : s.config.overflow ≢ DropOldest → 0 < capacity s → (p : ℕ) → position_of u s.subscribers ≡ Some p
        → (m.taken ++ (m.own ++ m.box) ≡ b.first ++ drop b.entry (values s)) × (b.entry ≤ length s.emitted)
    pub fresh : s.issued < u → m.taken ≡ []

  pub stands_within : (u p : ℕ) (s : SharedFlowState T) → Placed s → position_of u s.subscribers ≡ Some p → p ≤ length s.emitted
  stands_within u p s h e = let found = position_holds (λ v. v.position ≤ length s.emitted) u p s.subscribers h.within e in omega (arith, found.2, found.3)

  pub length_values : (s : SharedFlowState T) → length (values s) ≡ length s.emitted
  length_values s = length-map s.emitted (λ (e : Numbered T). e.value)

  -- ---- values that arrive

  -- a box with room keeps all
  pub keep_room : (w : ℕ) (xs : List T) → length xs ≤ w → keep_last w xs ≡ xs
  keep_room w xs l = let none : length xs - w ≡ 0 = omega arith in ap (λ n. drop n xs) none

  -- the values that the queue gives to the log
  abbrev pub admitted : SharedFlowState T → List (Numbered T) → List T
  admitted s [] = []
  admitted s (e ∷ q) = cond (is_blocked s) [] (e.value ∷ admitted (record s { emitted = s.emitted ++ e ∷ [] }) q)

  values_more : (s : SharedFlowState T) (e : Numbered T) → values (record s { emitted = s.emitted ++ e ∷ [] }) ≡ values s ++ e.value ∷ []
  values_more s e = map-append (λ (e : Numbered T). e.value) s.emitted (e ∷ [])

  pub admit_values : (s : SharedFlowState T) (q : List (Numbered T)) → values (admit s q) ≡ values s ++ admitted s q
  admit_values s [] = sym (append-nil (values s))
  admit_values s (e ∷ q) = split (is_blocked s)
      (λ t. values (cond t (record s { queue = e ∷ q }) (admit (record s { emitted = s.emitted ++ e ∷ [] }) q)) ≡ values s ++ cond t [] (e.value ∷ admitted (record s { emitted = s.emitted ++ e ∷ [] }) q))
      (λ _. sym (append-nil (values s)))
      (λ _. admit_values (record s { emitted = s.emitted ++ e ∷ [] }) q ∙ ap (λ l. l ++ admitted (record s { emitted = s.emitted ++ e ∷ [] }) q) (values_more s e) ∙ append_assoc (values s) (e.value ∷ []) _)

  pub admit_arrivals : (s : SharedFlowState T) (q : List (Numbered T)) → arrivals s (admit s q) ≡ admitted s q
  admit_arrivals s q = ap (drop (length s.emitted)) (admit_values s q) ∙ drop_at (values s) (admitted s q) (length s.emitted) (length_values s)

  pub admit_subscribers : (s : SharedFlowState T) (q : List (Numbered T)) → ((admit s q).subscribers ≡ s.subscribers) × ((admit s q).config ≡ s.config) × ((admit s q).issued ≡ s.issued)
  admit_subscribers s [] = (refl, refl, refl)
  admit_subscribers s (e ∷ q) = split (is_blocked s)
      (λ t. let r : SharedFlowState T = cond t (record s { queue = e ∷ q }) (admit (record s { emitted = s.emitted ++ e ∷ [] }) q) in (r.subscribers ≡ s.subscribers) × (r.config ≡ s.config) × (r.issued ≡ s.issued))
      (λ _. (refl, refl, refl))
      (λ _. admit_subscribers (record s { emitted = s.emitted ++ e ∷ [] }) q)

  -- no box overflows when queued values are admitted
  pub arrive_admitted : (u p : ℕ) (s : SharedFlowState T) (q : List (Numbered T)) (box : List T) → position_of u s.subscribers ≡ Some p → p ≤ length s.emitted → length box ≡ length s.emitted - p
      → arrive (window s) box (admitted s q) ≡ box ++ admitted s q
  arrive_admitted u p s [] box at l count = sym (append-nil box)
  arrive_admitted u p s (e ∷ q) box at l count = split (is_blocked s)
      (λ t. is_blocked s ≡ t → arrive (window s) box (cond t [] (e.value ∷ admitted (record s { emitted = s.emitted ++ e ∷ [] }) q)) ≡ box ++ cond t [] (e.value ∷ admitted (record s { emitted = s.emitted ++ e ∷ [] }) q))
      (λ _ _. sym (append-nil box))
      (λ _ free.
      let room : length s.emitted - p < window s = lag_below (window s) (length s.emitted) u p s.subscribers free at in
      let longer : length (box ++ e.value ∷ []) ≡ length box + 1 = length_push box e.value in
      let kept : keep_last (window s) (box ++ e.value ∷ []) ≡ box ++ e.value ∷ [] = keep_room (window s) (box ++ e.value ∷ []) (omega (arith, room, longer, count)) in
      let log_longer : length (s.emitted ++ e ∷ []) ≡ length s.emitted + 1 = length_push s.emitted e in
      ap (λ b. arrive (window s) b (admitted (record s { emitted = s.emitted ++ e ∷ [] }) q)) kept
      ∙ arrive_admitted u p (record s { emitted = s.emitted ++ e ∷ [] }) q (box ++ e.value ∷ []) at (omega (arith, log_longer, l)) (omega (arith, log_longer, longer, count, l))
      ∙ append_assoc box (e.value ∷ []) _) refl

  pub box_length : (u p : ℕ) (b : Beginning T) (s : SharedFlowState T) (m : Mailbox T) → Boxed u s m b → position_of u s.subscribers ≡ Some p → length m.box ≡ length s.emitted - p
  box_length u p b s m h at = ap length (sym (h.rest p at)) ∙ length-drop p (values s) ∙ ap (λ n. n - p) (length_values s)

  -- the state s2 has the values xs more than s, and everybody has them all in the box
  pub boxed_more : (u : ℕ) (b : Beginning T) (s s2 : SharedFlowState T) (m : Mailbox T) (xs box : List T) → Placed s → Boxed u s m b
      → s2.config ≡ s.config → s2.subscribers ≡ s.subscribers → s.issued ≤ s2.issued → values s2 ≡ values s ++ xs → length s.emitted ≤ length s2.emitted
      → ((p : ℕ) → position_of u s.subscribers ≡ Some p → box ≡ m.box ++ xs)
      → Boxed u s2 (record m { box = box }) b
  boxed_more u b s s2 m xs box placed h conf subs iss vals longer all = record {
    own = λ p at2. ap (own_of u) subs ∙ h.own p (ap (position_of u) (sym subs) ∙ at2);
    rest = λ p at2. let at : position_of u s.subscribers ≡ Some p = ap (position_of u) (sym subs) ∙ at2 in
        ap (drop p) vals ∙ drop-append-le p (values s) xs (omega (arith, length_values s, stands_within u p s placed at)) ∙ ap (λ l. l ++ xs) (h.rest p at) ∙ sym (all p at);
    whole = λ o c p at2. let at : position_of u s.subscribers ≡ Some p = ap (position_of u) (sym subs) ∙ at2 in
        let w = h.whole (λ oldest. o (ap (λ (g : Config). g.overflow) conf ∙ oldest)) (subst (λ (g : Config). 0 < g.replay + g.extra) conf c) p at in (
          ap (λ l. m.taken ++ (m.own ++ l)) (all p at) ∙ sym (append_third m.taken m.own m.box xs) ∙ ap (λ l. l ++ xs) w.0
              ∙ append_assoc b.first (drop b.entry (values s)) xs
              ∙ ap (λ l. b.first ++ l) (sym (drop-append-le b.entry (values s) xs (omega (arith, length_values s, w.1))) ∙ ap (drop b.entry) (sym vals)),
          omega (arith, w.1, longer),
        );
    fresh = λ l. h.fresh (omega (arith, l, iss));
  }

  pub log_from_values : (s s2 : SharedFlowState T) (xs : List T) → values s2 ≡ values s ++ xs → length s.emitted ≤ length s2.emitted
  log_from_values s s2 xs e = let count : length (values s2) ≡ length (values s) + length xs = ap length e ∙ length-append (values s) xs in omega (arith, count, length_values s, length_values s2)

  pub settle_boxed : (u : ℕ) (b : Beginning T) (s : SharedFlowState T) (m : Mailbox T) → Placed s → Boxed u s m b → Boxed u (settle s) (with_arrivals (window s) (arrivals s (settle s)) m) b
  settle_boxed u b s m placed h =
      let kept = admit_subscribers s s.queue in
      boxed_more u b s (settle s) m (admitted s s.queue) (arrive (window s) m.box (arrivals s (settle s))) placed h kept.1 kept.0 (omega (arith, kept.2)) (admit_values s s.queue)
      (log_from_values s (settle s) (admitted s s.queue) (admit_values s s.queue))
      (λ p at. ap (arrive (window s) m.box) (admit_arrivals s s.queue) ∙ arrive_admitted u p s s.queue m.box at (stands_within u p s placed at) (box_length u p b s m h at))

  -- a value that is appended
  pub append_arrivals : (s : SharedFlowState T) (v : T) → arrivals s (append v s) ≡ v ∷ []
  append_arrivals s v = ap (drop (length s.emitted)) (values_more s (numbered v s)) ∙ drop_at (values s) (v ∷ []) (length s.emitted) (length_values s)

  pub append_boxed : (u : ℕ) (b : Beginning T) (s : SharedFlowState T) (v : T) (m : Mailbox T) → Placed s → is_blocked s ≡ false → Boxed u s m b → Boxed u (append v s) (with_arrivals (window s) (arrivals s (append v s)) m) b
  append_boxed u b s v m placed free h =
      boxed_more u b s (append v s) m (v ∷ []) (arrive (window s) m.box (arrivals s (append v s))) placed h refl refl (omega arith) (values_more s (numbered v s))
      (log_from_values s (append v s) (v ∷ []) (values_more s (numbered v s)))
      (λ p at. let room : length s.emitted - p < window s = lag_below (window s) (length s.emitted) u p s.subscribers free at in
      let count = box_length u p b s m h at in
      ap (arrive (window s) m.box) (append_arrivals s v) ∙ keep_room (window s) (m.box ++ v ∷ []) (omega (arith, room, count, length_push m.box v)))

  -- no value arrives if the flow does not change
  pub no_arrivals : (s : SharedFlowState T) → drop (length s.emitted) (values s) ≡ []
  no_arrivals s = drop_all (length s.emitted) (values s) (omega (arith, length_values s))

  pub unfilled : (w : ℕ) (s : SharedFlowState T) (m : Mailbox T) → with_arrivals w (drop (length s.emitted) (values s)) m ≡ m
  unfilled w s m = ap (λ l. with_arrivals w l m) (no_arrivals s)

  -- the oldest go
  pub drop_boxed : (u : ℕ) (b : Beginning T) (s : SharedFlowState T) (v : T) (m : Mailbox T) → Placed s → s.config.overflow ≡ DropOldest → 0 < capacity s → Boxed u s m b
      → Boxed u (drop_oldest (append v s)) (with_arrivals (window s) (arrivals s (drop_oldest (append v s))) m) b
  drop_boxed u b s v m placed o c h = record {
    own = λ q at2. own-map (λ p. max p (length (append v s).emitted - capacity s)) u s.subscribers
        ∙ h.own (position-map (λ p. max p (length (append v s).emitted - capacity s)) u q s.subscribers at2).0 (position-map (λ p. max p (length (append v s).emitted - capacity s)) u q s.subscribers at2).1;
    rest = λ q at2. let found = position-map (λ p. max p (length (append v s).emitted - capacity s)) u q s.subscribers at2 in
        let at : position_of u s.subscribers ≡ Some found.0 = found.1 in
        let p : ℕ = found.0 in
        let lp : p ≤ length s.emitted = stands_within u p s placed at in
        let count : length m.box ≡ length s.emitted - p = box_length u p b s m h at in
        let longer : length (s.emitted ++ numbered v s ∷ []) ≡ length s.emitted + 1 = length_push s.emitted (numbered v s) in
        let box_longer : length (m.box ++ v ∷ []) ≡ length m.box + 1 = length_push m.box v in
        let there : p + (length (m.box ++ v ∷ []) - window s) ≡ q = sum_is p (length s.emitted) (length m.box) (length (m.box ++ v ∷ [])) (length (s.emitted ++ numbered v s ∷ [])) (capacity s) q lp count longer box_longer c found.2 in
        let at_p : drop p (values (append v s)) ≡ m.box ++ v ∷ [] =
        ap (drop p) (values_more s (numbered v s)) ∙ drop-append-le p (values s) (v ∷ []) (omega (arith, length_values s, lp)) ∙ ap (λ l. l ++ v ∷ []) (h.rest p at) in
        ap (λ n. drop n (values (append v s))) (sym there)
        ∙ sym (drop-drop (length (m.box ++ v ∷ []) - window s) p (values (append v s)))
        ∙ ap (drop (length (m.box ++ v ∷ []) - window s)) at_p
        ∙ sym (ap (arrive (window s) m.box) (append_arrivals s v));
    whole = λ o2. absurd (o2 o);
    fresh = λ l. h.fresh (omega (arith, l));
  }
    where
      sum_is : (p n k k2 n2 c q : ℕ) → p ≤ n → k ≡ n - p → n2 ≡ n + 1 → k2 ≡ k + 1 → 0 < c → max p (n2 - c) ≡ q → p + (k2 - max c 1) ≡ q
      sum_is p n k k2 n2 c q a b d e f g = omega arith

  -- the position and the log stay, so does the box
  pub boxed_same : (u : ℕ) (b : Beginning T) (s s2 : SharedFlowState T) (m : Mailbox T) → Boxed u s m b → s2.config ≡ s.config → s2.emitted ≡ s.emitted → s.issued ≤ s2.issued
      → ((p : ℕ) → position_of u s2.subscribers ≡ Some p → position_of u s.subscribers ≡ Some p) → own_of u s2.subscribers ≡ own_of u s.subscribers → Boxed u s2 m b
  boxed_same u b s s2 m h conf emitted iss back same_own = record {
    own = λ p at. same_own ∙ h.own p (back p at);
    rest = λ p at. ap (λ l. drop p (map (λ (e : Numbered T). e.value) l)) emitted ∙ h.rest p (back p at);
    whole = λ o c p at. let w = h.whole (λ oldest. o (ap (λ (g : Config). g.overflow) conf ∙ oldest)) (subst (λ (g : Config). 0 < g.replay + g.extra) conf c) p (back p at) in
        (w.0 ∙ ap (λ l. b.first ++ drop b.entry (map (λ (e : Numbered T). e.value) l)) (sym emitted), subst (λ l. b.entry ≤ length l) (sym emitted) w.1);
    fresh = λ l. h.fresh (omega (arith, l, iss));
  }
