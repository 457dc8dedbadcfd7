-- What a subscriber may miss. Key facts: `Read` (what was read of a log), `trails` (it holds along a history), `lags` (the law).
use Rattle.std.proofs.Common.{inl, inr, ◌≡◌, ◌≢◌, ◌⊎◌, ℕ, zero, suc, ◌+◌, ◌-◌, ◌≤◌, ◌<◌, true, false, List, [], ◌∷◌, ◌++◌, length, map, take, drop, Option, Some, None, refl, sym, ap, ◌∙◌, subst, arith, append_assoc, append-nil, length-append, length-drop}
use Rattle.std.specs.Prelude.{max, IsSome}
use Rattle.std.specs.List.{slice_get}
use Rattle.std.proofs.lemmas.Bool.{cases_lt}
use Rattle.std.proofs.lemmas.List.{map-append, drop-append-le, take-append-le, take-append-drop, length-take-le, drop_all, drop-drop}
use Rattle.std.proofs.lemmas.Option.{slice_get_past, slice_get_within}
use Rattle.flow_law.specs.declared.config.Config.{Config}
use Rattle.flow_law.specs.declared.config.Overflow.TheVariants.{DropOldest}
use Rattle.flow_law.specs.flow.SharedFlow.{Numbered, SharedFlowState, first_state, capacity, entry, values, position_of}
use Rattle.flow_law.specs.flow.SharedHistory.{History, IsLegalShared, IsLegalFrom, after, shared_after_all, state_after}
use Rattle.flow_law.specs.flow.Mailbox.{Beginning, began, began_by, began_from, box, keep_last}
use Rattle.flow_law.specs.laws.Waiting.{from_flow_by, from_flow}
use Rattle.flow_law.specs.laws.Lagging.{IsSubsequence, IsSuffix, Lags, EachLags}
use Rattle.flow_law.proofs.Moves.{event_keeps}
use Rattle.flow_law.proofs.Sound.{Sound, sound_keeps, opened_sound}
use Rattle.flow_law.proofs.Boxes.{length_values, stands_within}
use Rattle.flow_law.proofs.Delivered.{delivers}
use Rattle.flow_law.proofs.Growing.{Grown, event_grown}
use Rattle.flow_law.proofs.Passing.{MaySkip, Moved, enters, stays, skips, reads, event_passes}

none_or_some : {A : Type 0} (a : A) → None ≡ Some a → ⊥
none_or_some a e = cc

same_some : {A : Type 0} (a b : A) → Some a ≡ Some b → a ≡ b
same_some a b e = cc

module _ {A : Type 0} where
  -- ---- parts and ends of lists

  part_right : (more xs ys : List A) → IsSubsequence xs ys → IsSubsequence xs (ys ++ more)
  part_right more [] ys h = tt
  part_right more (x ∷ xs) [] h = absurd h
  part_right more (x ∷ xs) (y ∷ ys) h = elim h as (λ _. ((x ≡ y) × IsSubsequence xs (ys ++ more)) ⊎ IsSubsequence (x ∷ xs) (ys ++ more)) [
    | inl both ↦ inl (both.0, part_right more xs ys both.1)
    | inr rest ↦ inr (part_right more (x ∷ xs) ys rest)
  ]

  part_left : (zs ys : List A) → IsSubsequence zs (ys ++ zs)
  part_left [] ys = tt
  part_left (z ∷ zs) [] = inl (refl, part_left zs [])
  part_left (z ∷ zs) (y ∷ ys) = inr (part_left (z ∷ zs) ys)

  part_both : (zs xs ys : List A) → IsSubsequence xs ys → IsSubsequence (xs ++ zs) (ys ++ zs)
  part_both zs [] ys h = part_left zs ys
  part_both zs (x ∷ xs) [] h = absurd h
  part_both zs (x ∷ xs) (y ∷ ys) h = elim h as (λ _. ((x ≡ y) × IsSubsequence (xs ++ zs) (ys ++ zs)) ⊎ IsSubsequence (x ∷ xs ++ zs) (ys ++ zs)) [
    | inl both ↦ inl (both.0, part_both zs xs ys both.1)
    | inr rest ↦ inr (part_both zs (x ∷ xs) ys rest)
  ]

  ends_nothing : (end xs : List A) → end ≡ [] → IsSuffix end xs
  ends_nothing end xs e = (xs, sym (append-nil xs) ∙ ap (λ l. xs ++ l) (sym e))

  ends_both : (more end xs : List A) → IsSuffix end xs → IsSuffix (end ++ more) (xs ++ more)
  ends_both more end xs h = (h.0, ap (λ l. l ++ more) h.1 ∙ append_assoc h.0 end more)

  ends_less : (a b : ℕ) (log xs : List A) → a ≤ b → IsSuffix (drop a log) xs → IsSuffix (drop b log) xs
  ends_less a b log xs l h =
      let there : a + (b - a) ≡ b = omega arith in
      let parts : take (b - a) (drop a log) ++ drop b log ≡ drop a log = ap (λ r. take (b - a) (drop a log) ++ r) (ap (λ n. drop n log) (sym there) ∙ sym (drop-drop (b - a) a log)) ∙ take-append-drop (b - a) (drop a log) in
      (h.0 ++ take (b - a) (drop a log), h.1 ∙ ap (λ r. h.0 ++ r) (sym parts) ∙ sym (append_assoc h.0 (take (b - a) (drop a log)) (drop b log)))

  take_here : (p : ℕ) (xs : List A) (v : A) → slice_get xs p ≡ Some v → take (p + 1) xs ≡ take p xs ++ v ∷ []
  take_here p [] v e = absurd (none_or_some v (sym (slice_get_past [] p (omega arith)) ∙ e))
  take_here zero (x ∷ xs) v e = ap (λ y. y ∷ []) (same_some x v e)
  take_here (suc p) (x ∷ xs) v e = ap (λ n. take n (x ∷ xs)) (let k : suc p + 1 ≡ suc (p + 1) = omega arith in k) ∙ ap (λ l. x ∷ l) (take_here p xs v e)

  -- what a subscriber that entered at `entry` read of a log up to the place p. The log keeps `room` values for it
  pub record Read (log : List A) (room entry p : ℕ) (Whole : Type 0) (got : List A) : Type 0 where
    pub low : entry ≤ p
    pub high : p ≤ length log
    pub part : IsSubsequence got (drop entry (take p log))
    pub recent : IsSuffix (drop (max entry (length log - room)) (take p log)) got
    pub whole : Whole → got ≡ drop entry (take p log)

  read_grows : (log more : List A) (room entry p : ℕ) (Whole : Type 0) (got : List A) → Read log room entry p Whole got → Read (log ++ more) room entry p Whole got
  read_grows log more room entry p Whole got h =
      let same : take p (log ++ more) ≡ take p log = take-append-le p log more h.high in
      let count = length-append log more in record {
        low = h.low;
        high = omega (arith, h.high, count);
        part = subst (λ l. IsSubsequence got (drop entry l)) (sym same) h.part;
        recent = subst (λ l. IsSuffix (drop (max entry (length (log ++ more) - room)) l) got) (sym same) (ends_less (max entry (length log - room)) (max entry (length (log ++ more) - room)) (take p log) got (omega (arith, count)) h.recent);
        whole = λ w. h.whole w ∙ ap (drop entry) (sym same);
      }

  read_enters : (log : List A) (room p : ℕ) (Whole : Type 0) → p ≤ length log → Read log room p p Whole []
  read_enters log room p Whole l =
      let count : length (take p log) ≡ p = length-take-le p log l in
      let none : drop p (take p log) ≡ [] = drop_all p (take p log) (omega (arith, count)) in
      let none_recent : drop (max p (length log - room)) (take p log) ≡ [] = drop_all (max p (length log - room)) (take p log) (omega (arith, count)) in
      record { low = omega arith; high = l; part = tt; recent = ends_nothing _ [] none_recent; whole = λ _. sym none }

  read_skips : (log : List A) (room entry p q : ℕ) (Whole : Type 0) (got : List A) → p ≤ q → q ≤ length log → q ≤ max p (length log - room) → (Whole → ⊥) → Read log room entry p Whole got → Read log room entry q Whole got
  read_skips log room entry p q Whole got up in_log most not_whole h = elim (cases_lt p q) as (λ _. Read log room entry q Whole got) [
    | inr same ↦ let is : p ≡ q = omega (arith, up, same) in subst (λ n. Read log room entry n Whole got) is h
    | inl less ↦
        let count : length (take q log) ≡ q = length-take-le q log in_log in
        let count_p : length (take p log) ≡ p = length-take-le p log h.high in
        let first : take p (take q log) ≡ take p log = take-take p q log up in
        let parts : take q log ≡ take p log ++ drop p (take q log) = sym (take-append-drop p (take q log)) ∙ ap (λ l. l ++ drop p (take q log)) first in
        record {
          low = omega (arith, h.low, up);
          high = in_log;
          part = subst (IsSubsequence got) (sym (ap (drop entry) parts ∙ drop-append-le entry (take p log) (drop p (take q log)) (omega (arith, h.low, count_p)))) (part_right (drop p (take q log)) got (drop entry (take p log)) h.part);
          recent = ends_nothing _ got (drop_all (max entry (length log - room)) (take q log) (omega (arith, count, most, less)));
          whole = λ w. absurd (not_whole w);
        }
  ]
    where
      take-take : (p q : ℕ) (xs : List A) → p ≤ q → take p (take q xs) ≡ take p xs
      take-take zero q xs l = refl
      take-take (suc p) zero xs l = absurd (omega (arith, l))
      take-take (suc p) (suc q) [] l = refl
      take-take (suc p) (suc q) (x ∷ xs) l = ap (λ r. x ∷ r) (take-take p q xs (omega (arith, l)))

  read_one : (log : List A) (room entry p : ℕ) (Whole : Type 0) (got : List A) (v : A) → slice_get log p ≡ Some v → Read log room entry p Whole got → Read log room entry (p + 1) Whole (got ++ v ∷ [])
  read_one log room entry p Whole got v here h =
      let within : p < length log = slice_get_within log p v here in
      let count : length (take p log) ≡ p = length-take-le p log h.high in
      let count_more : length (take (p + 1) log) ≡ p + 1 = length-take-le (p + 1) log (omega (arith, within)) in
      let one_more : take (p + 1) log ≡ take p log ++ v ∷ [] = take_here p log v here in
      let dropped : (a : ℕ) → a ≤ p → drop a (take (p + 1) log) ≡ drop a (take p log) ++ v ∷ [] = λ a l. ap (drop a) one_more ∙ drop-append-le a (take p log) (v ∷ []) (omega (arith, l, count)) in
      record {
        low = omega (arith, h.low);
        high = omega (arith, within);
        part = subst (IsSubsequence (got ++ v ∷ [])) (sym (dropped entry h.low)) (part_both (v ∷ []) got (drop entry (take p log)) h.part);
        recent = elim (cases_lt p (max entry (length log - room))) as (λ _. IsSuffix (drop (max entry (length log - room)) (take (p + 1) log)) (got ++ v ∷ [])) [
          | inl far ↦ ends_nothing _ (got ++ v ∷ []) (drop_all (max entry (length log - room)) (take (p + 1) log) (omega (arith, count_more, far)))
          | inr near ↦ subst (λ l. IsSuffix l (got ++ v ∷ [])) (sym (dropped (max entry (length log - room)) near)) (ends_both (v ∷ []) (drop (max entry (length log - room)) (take p log)) got h.recent)
        ];
        whole = λ w. ap (λ l. l ++ v ∷ []) (h.whole w) ∙ sym (dropped entry h.low);
      }

-- no value is taken away from a slow subscriber
abbrev NoSkip : Config → Type 0
NoSkip g = (g.overflow ≢ DropOldest) × (0 < g.replay + g.extra)

module _ {T : Type 0} where
  no_skip : (s : SharedFlowState T) → MaySkip s → NoSkip s.config → ⊥
  no_skip s may k = elim may as (λ _. ⊥) [ inl drops ↦ k.0 drops | inr none ↦ omega (arith, none, k.1) ]

  abbrev Trail : ℕ → Config → SharedFlowState T → ℕ → List T → Type 0
  Trail u g s entered got = (p : ℕ) → position_of u s.subscribers ≡ Some p → Read (values s) (g.replay + g.extra) entered p (NoSkip g) got

  trails : (u : ℕ) (g : Config) (b : Beginning T) (got : List T) (s : SharedFlowState T) (h : History T) → s.config ≡ g → Sound s → IsLegalFrom s h → (s.issued < u → got ≡ [])
      → Trail u g s b.entry got → Trail u g (shared_after_all s h) (began_from u s h b).entry (got ++ from_flow u s h)
  trails u g b got s [] is sound legal fresh trail = λ p at. subst (Read (values s) (g.replay + g.extra) b.entry p (NoSkip g)) (sym (append-nil got)) (trail p at)
  trails u g b got s (e ∷ es) is sound legal fresh trail =
      let t : SharedFlowState T = after s e.what.call e.what.reply in
      let new : List T = from_flow_by u s e.what.call e.what.reply in
      let step = event_passes u s sound.placed e.what.call e.what.reply legal.0 in
      let grown = event_grown s e.what.call e.what.reply in
      let sound_after : Sound t = event_keeps Sound s sound (sound_keeps s sound) e.what.call e.what.reply in
      let rest = trails u g (began_by u s e.what.call e.what.reply b) (got ++ new) t es (grown.config ∙ is) sound_after legal.1
      (λ l. let l2 : s.issued < u = omega (arith, l, grown.issued) in ap (λ r. r ++ new) (fresh l2) ∙ step.early l2)
      (λ q at. moved t new (began_by u s e.what.call e.what.reply) grown q (stands_within u q t sound_after.placed at) (step.place q at)) in
      λ p at. subst (Read (values (shared_after_all t es)) (g.replay + g.extra) (began_from u t es (began_by u s e.what.call e.what.reply b)).entry p (NoSkip g)) (append_assoc got new (from_flow u t es)) (rest p at)
    where
      as_before : (t : SharedFlowState T) (new : List T) (begin : Beginning T → Beginning T) (q : ℕ) (now : List T) → begin b ≡ b → got ++ new ≡ now → Read (values t) (g.replay + g.extra) b.entry q (NoSkip g) now
          → Read (values t) (g.replay + g.extra) (begin b).entry q (NoSkip g) (got ++ new)
      as_before t new begin q now same is h = subst (λ (c : Beginning T). Read (values t) (g.replay + g.extra) c.entry q (NoSkip g) (got ++ new)) (sym same) (subst (Read (values t) (g.replay + g.extra) b.entry q (NoSkip g)) (sym is) h)

      still : (t : SharedFlowState T) → Grown s t → (q : ℕ) → {got : List T} → Read (values s) (g.replay + g.extra) b.entry q (NoSkip g) got → Read (values t) (g.replay + g.extra) b.entry q (NoSkip g) got
      still t grown q {got} h =
          let more : List T = map (λ e. e.value) grown.more in
          let vals : values t ≡ values s ++ more = ap (map (λ (e : Numbered T). e.value)) grown.log ∙ map-append (λ (e : Numbered T). e.value) s.emitted grown.more in
          subst (λ l. Read l (g.replay + g.extra) b.entry q (NoSkip g) got) (sym vals) (read_grows (values s) more (g.replay + g.extra) b.entry q (NoSkip g) got h)

      room_most : (t : SharedFlowState T) (q p : ℕ) → q ≤ max p (length t.emitted - capacity s) → q ≤ max p (length (values t) - (g.replay + g.extra))
      room_most t q p l = let same : capacity s ≡ g.replay + g.extra = ap (λ (c : Config). c.replay + c.extra) is in omega (arith, l, same, length_values t)

      moved : (t : SharedFlowState T) (new : List T) (begin : Beginning T → Beginning T) → Grown s t → (q : ℕ) → q ≤ length t.emitted → Moved u s t new begin q
          → Read (values t) (g.replay + g.extra) (begin b).entry q (NoSkip g) (got ++ new)
      moved t new begin grown q within (enters young at none begins) =
          let nothing : [] ≡ got ++ new = sym (ap (λ l. l ++ new) (fresh young) ∙ none) in
          let here = read_enters (values t) (g.replay + g.extra) q (NoSkip g) (omega (arith, within, length_values t)) in
          subst (λ n. Read (values t) (g.replay + g.extra) n q (NoSkip g) (got ++ new)) (at ∙ sym (begins b)) (subst (Read (values t) (g.replay + g.extra) q q (NoSkip g)) nothing here)
      moved t new begin grown q within (stays here none begins) = as_before t new begin q got (begins b) (ap (λ l. got ++ l) none ∙ append-nil got) (still t grown q (trail q here))
      moved t new begin grown q within (skips p here up most may none begins) = as_before t new begin q got (begins b) (ap (λ l. got ++ l) none ∙ append-nil got)
          (read_skips (values t) (g.replay + g.extra) b.entry p q (NoSkip g) got up (omega (arith, within, length_values t)) (room_most t q p most) (λ k. no_skip s may (subst NoSkip (sym is) k)) (still t grown p (trail p here)))
      moved t new begin grown q within (reads p v here there at one begins) = as_before t new begin q (got ++ v ∷ []) (begins b) (ap (λ l. got ++ l) one)
          (subst (λ n. Read (values t) (g.replay + g.extra) b.entry n (NoSkip g) (got ++ v ∷ [])) (sym at) (still t grown (p + 1) (read_one (values s) (g.replay + g.extra) b.entry p (NoSkip g) got v there (trail p here))))

  none_yet : (u : ℕ) (g : Config) → Trail u g (first_state g) 0 []
  none_yet u g p at = absurd (none_or_some p at)

  -- the law for a subscriber at the position p, by what it has read
  lags_at : (u p : ℕ) (config : Config) (h : History T) → Read (values (state_after config h)) (config.replay + config.extra) (began u config h).entry p (NoSkip config) (from_flow u (first_state config) h)
      → drop p (values (state_after config h)) ≡ box u config h → Lags u config h
  lags_at u p config h read rest =
      let log : List T = values (state_after config h) in
      let got : List T = from_flow u (first_state config) h in
      let entered : ℕ = (began u config h).entry in
      let room : ℕ = config.replay + config.extra in
      let count : length (take p log) ≡ p = length-take-le p log read.high in
      let from : (a : ℕ) → a ≤ p → drop a log ≡ drop a (take p log) ++ drop p log = λ a l. ap (drop a) (sym (take-append-drop p log)) ∙ drop-append-le a (take p log) (drop p log) (omega (arith, l, count)) in
      let meant : drop entered log ≡ drop entered (take p log) ++ drop p log = from entered read.low in
      let left : length (drop entered log) ≡ length log - entered = length-drop entered log in
      let last : keep_last room (drop entered log) ≡ drop (max entered (length log - room)) log = drop-drop (length (drop entered log) - room) entered log ∙ ap (λ n. drop n log) (let k : entered + (length (drop entered log) - room) ≡ max entered (length log - room) = omega (arith, left, read.low, read.high) in k) in
      let with_box : got ++ drop p log ≡ got ++ box u config h = ap (λ l. got ++ l) rest in record {
        in_order = subst (λ l. IsSubsequence l (drop entered log)) with_box (subst (IsSubsequence (got ++ drop p log)) (sym meant) (part_both (drop p log) got (drop entered (take p log)) read.part));
        newest = subst (λ l. IsSuffix l (got ++ box u config h)) (sym last) (subst (IsSuffix (drop (max entered (length log - room)) log)) with_box (recent log got room entered read.recent (from (max entered (length log - room)))));
        whole = λ o c. sym with_box ∙ ap (λ l. l ++ drop p log) (read.whole (o, c)) ∙ sym meant;
      }
    where
      recent : (log got : List T) (room entered : ℕ) → IsSuffix (drop (max entered (length log - room)) (take p log)) got → (max entered (length log - room) ≤ p → drop (max entered (length log - room)) log ≡ drop (max entered (length log - room)) (take p log) ++ drop p log)
          → IsSuffix (drop (max entered (length log - room)) log) (got ++ drop p log)
      recent log got room entered h from = elim (cases_lt p (max entered (length log - room))) as (λ _. IsSuffix (drop (max entered (length log - room)) log) (got ++ drop p log)) [
        | inl far ↦ ends_less p (max entered (length log - room)) log (got ++ drop p log) (omega (arith, far)) (got, refl)
        | inr near ↦ subst (λ l. IsSuffix l (got ++ drop p log)) (sym (from near)) (ends_both (drop p log) (drop (max entered (length log - room)) (take p log)) got h)
      ]

  pub lags : (config : Config) (h : History T) → IsLegalShared config h → EachLags config h
  lags config h legal u there = at (position_of u (state_after config h).subscribers) refl there
    where
      at : (o : Option ℕ) → position_of u (state_after config h).subscribers ≡ o → IsSome o → Lags u config h
      at None e k = absurd (let wrong : false ≡ true = k in cc)
      at (Some p) e k = lags_at u p config h
          (trails u config (record { first = []; entry = 0 }) [] (first_state config) h refl (opened_sound config) legal.1 (λ _. refl) (none_yet u config) p e)
          ((delivers config h legal u).rest p e)
