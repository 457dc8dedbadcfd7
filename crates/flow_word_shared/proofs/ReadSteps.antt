-- The steps of readers keep the rule of the table. Begin with `is_now`: where a subscriber stands still holds after events of others.
use Rattle.std.proofs.Common.{◌≡◌, ◌≢◌, ℕ, ◌+◌, ◌*◌, ◌/◌, ◌<◌, ◌≤◌, List, [], ◌∷◌, ◌++◌, length, get_or, set, Option, Some, None, refl, sym, ap, ◌∙◌, subst, arith}
use Rattle.std.specs.List.{slice_get}
use Rattle.std.proofs.lemmas.List.{map-append}
use Rattle.std.proofs.Common.{length-append, map}
use mathlib.Core.Logic.{dite}
use mathlib.Core.Option.{none, some}
use native.Mathlib.Decide.{dec_le}
use lib.ListN.{get_elem?}
use Rattle.atomic_table.specs.Table.{State, Me, step, keeps, Allows}
use Rattle.flow_law.specs.declared.config.Overflow.TheVariants.{Suspend}
use Rattle.flow_law.specs.declared.outcome.Next.TheVariants.{Empty}
use Rattle.flow_law.specs.declared.call.SharedCall.{SharedCall}
use Rattle.flow_law.specs.declared.call.SharedCall.TheVariants as call
use Rattle.flow_law.specs.declared.call.SharedReply.{SharedReply}
use Rattle.flow_law.specs.declared.call.SharedReply.TheVariants as reply
use Rattle.flow_law.specs.declared.states.Numbered.{Numbered}
use Rattle.flow_law.specs.declared.states.SharedFlowState.{SharedFlowState}
use Rattle.flow_law.specs.history.Growth.{Fits}
use Rattle.flow_law.specs.history.History.{subscriber}
use Rattle.flow_law.specs.flow.SharedFlow.{values, answer}
use Rattle.flow_law.specs.flow.SharedStep.{next}
use Rattle.flow_law.specs.flow.SharedHistory.{History, outcome_of, Replies, after, shared_after_all, shared_flow, IsSharedHistory}
use Rattle.flow_law.proofs.Boxes.{length_values}
use Rattle.flow_law.proofs.Growing.{Grown, history_grown}
use Rattle.flow_law.proofs.HistoryLemmas.{after_all-snoc, IsHistory-snoc}
use Rattle.flow_law.proofs.Owners.{after_all-append, given_stays}
use Rattle.flow_law.proofs.SharedLawful.{shared_lawful}
use Rattle.flow_law.proofs.Subscriptions.{given_grows}
use Rattle.flow_word_shared.specs.declared.view.RingKnown.{RingKnown}
use Rattle.flow_word_shared.specs.declared.view.Hold.{Hold}
use Rattle.flow_word_shared.specs.declared.view.Reads.{Reads}
use Rattle.flow_word_shared.specs.declared.view.RingStart.{RingStart}
use Rattle.flow_word_shared.specs.Rule.{capacity_of, cell_at, words_from, bit, HasValue, Hidden, WordsFit, HoldFits, ReadsFit, RingHolds}
use Rattle.flow_word_shared.specs.Steps.{Stands, IsAt, IsBegun, AreFound, IsFoundPart, log_after, StepCalls, StepSees, looks, reads_part, reads_cell}
use Rattle.flow_word_shared.specs.View.{SharedKnowledge, began_as, only, saw, reading_at}
use Rattle.flow_word_shared.proofs.Cells.{Once, begun_more, begun_whole, slice_get_left}
use Rattle.flow_word_shared.proofs.PlaceRule.{drops}
use Rattle.flow_word_shared.proofs.Oldest.{stands_in_silence, next_empty}
use Rattle.flow_word_shared.proofs.Keeps.{same_some, same_hold, now, more_by, event_by, turned_by, turned, started, fits_at, post_at, stay, event_step, quiet_by, sees_all, loaded}
use Rattle.flow_word_shared.proofs.Finding.{found_grows, found_more}
use Rattle.flow_word_shared.proofs.Issued.{emitted_few}

-- the list of a later history begins with that of an earlier one
pub log_grows : {T : Type 0} (start : RingStart) (h between : History T) → (more : List T) × (log_after start (h ++ between) ≡ log_after start h ++ more)
log_grows {T} start h between =
    let g : Grown (shared_after_all (began_as start) h) (shared_after_all (shared_after_all (began_as start) h) between) = history_grown (shared_after_all (began_as start) h) between in
    (map (λ (e : Numbered T). e.value) g.more, ap values (after_all-append shared_flow (began_as start) h between) ∙ ap (map (λ (e : Numbered T). e.value)) g.log ∙ map-append (λ (e : Numbered T). e.value) (shared_after_all (began_as start) h).emitted g.more)

pub half_of : (n found : ℕ) (owner : Option (List ℕ)) → found ≡ n * 2 + bit owner → found / 2 ≡ n
half_of n found None is = omega arith
half_of n found (Some name) is = omega arith

-- where a subscriber is, in a history that fits what its token knows
pub at_grows : {T : Type 0} (start : RingStart) → start.config.overflow ≢ Suspend → 0 < start.config.replay + start.config.extra → (lost : ℕ) (k : SharedKnowledge T) (h : History T) (number position : ℕ) → IsSharedHistory start.config h → Fits h k
    → IsAt start k number position → IsAt start (saw lost h k) number position
at_grows {T} start drops buffer lost k h number position is fits mine = record {
  given = given_grows shared_flow shared_lawful (began_as start) k.name (subscriber number) k.seen h is fits.0 mine.given;
  stands = subst (λ (z : History T). Stands number position (capacity_of start) (shared_after_all (began_as start) z)) (sym fits.0.1)
      (stands_in_silence T start.config drops buffer number position k.name k.seen fits.0.0 (subst (IsSharedHistory start.config) fits.0.1 is) fits.0.2 mine.given mine.stands);
}

module _ (T : Type 0) (packs : List ℕ → Type 0) (value_of : List ℕ → T) (start : RingStart) where
  abbrev V : Type 0
  V = List (RingKnown T)

  abbrev St : Type 0
  St = State Unit V

  abbrev Rule : St → Type 0
  Rule = RingHolds packs value_of start

  abbrev current : History T → SharedFlowState T
  current h = now T packs value_of start h

  -- where the subscriber stands in the history of the rule
  pub is_now : (s : St) (r : Rule s) (id : ℕ) (v : V) (lost number position : ℕ) → v ≡ only v ∷ [] → get_elem? s.views id ≡ some v → IsAt (only v).start (only v).knows number position
      → IsAt start (saw lost r.history (only v).knows) number position
  is_now s r id v lost number position is at old =
      at_grows start (drops start r.starts) r.starts.buffer lost (only v).knows r.history number position r.is_history (fits_at T packs value_of start s r id v is at)
      (subst (λ (z : RingStart). IsAt z (only v).knows number position) (started T packs value_of start s r id v is at) old)

  -- what holds of the flow with this start holds of the seat's flow
  as_started : (s : St) (r : Rule s) (id : ℕ) (v : V) (F : RingStart → Type 0) → v ≡ only v ∷ [] → get_elem? s.views id ≡ some v → F start → F (only v).start
  as_started s r id v F is at f = subst F (sym (started T packs value_of start s r id v is at)) f

  -- the values that a token knows of are those of a beginning
  pub log_now : (s : St) (r : Rule s) (id : ℕ) (v : V) → v ≡ only v ∷ [] → get_elem? s.views id ≡ some v
      → (more : List T) × (log_after start r.history ≡ log_after (only v).start (only v).knows.seen ++ more)
  log_now s r id v is at =
      let fits = fits_at T packs value_of start s r id v is at in let g = log_grows start (only v).knows.seen fits.0.0 in
      (g.0, ap (log_after start) fits.0.1 ∙ g.1 ∙ ap (λ (z : RingStart). log_after z (only v).knows.seen ++ g.0) (sym (started T packs value_of start s r id v is at)))

  -- what was found in the cells, in the history of the rule
  pub found_now : (s : St) (r : Rule s) (id : ℕ) (v : V) (p : ℕ) (ws : List (List ℕ)) → v ≡ only v ∷ [] → get_elem? s.views id ≡ some v
      → AreFound packs value_of (capacity_of (only v).start) (log_after (only v).start (only v).knows.seen) p ws → AreFound packs value_of (capacity_of start) (log_after start r.history) p ws
  found_now s r id v p ws is at f = let grown = log_now s r id v is at in
      subst (λ (l : List T). AreFound packs value_of (capacity_of start) l p ws) (sym grown.1)
      (found_grows packs value_of (capacity_of start) (log_after (only v).start (only v).knows.seen) grown.0 p ws
      (subst (λ (z : RingStart). AreFound packs value_of (capacity_of z) (log_after (only v).start (only v).knows.seen) p ws) (started T packs value_of start s r id v is at) f))

  -- a reader holds no lock bit
  pub holds_none : (s t : SharedFlowState T) (owner : Option (List ℕ)) (hidden : Hidden) (words : List ℕ) → length t.emitted ≡ length s.emitted → t.issued ≡ s.issued → t.reset_mark ≡ s.reset_mark
      → (y : RingKnown T) → HoldFits start s owner hidden words y.knows.name y.hold → HoldFits start t owner hidden words y.knows.name y.hold
  holds_none s t owner hidden words count issued mark y f = same_hold start s t owner hidden words words y.knows.name y.hold count issued mark (λ i from. refl) f

  -- a call of `next` that finds nothing
  looks_empty : (s : St) (r : Rule s) (id : ℕ) (me : Me Unit V) (x : Reads) → me.0 ≡ only me.0 ∷ [] → get_elem? s.views id ≡ some me.0 → IsAt start (saw (only me.0).knows.lost r.history (only me.0).knows) x.number x.position
      → ReadsFit start r.hidden.owners s.words (only me.0).knows.name (Some x) → length (current r.history).emitted ≤ x.position
      → let c : SharedCall T = call.TakeNext x.number in let y : SharedReply T = reply.Received Empty in let k : RingKnown T = turned T packs value_of start (only me.0) (more_by T packs value_of start (only me.0) r.history c y) None (Some x) in
      (Rule record { words = s.words; homes = s.homes; views = set s.views id (k ∷ []) } × StepCalls me c y (k ∷ [], me.1)) × (current (more_by T packs value_of start (only me.0) r.history c y) ≡ current r.history) × IsAt start k.knows x.number x.position
  looks_empty s r id me x is at here posts all =
      let c : SharedCall T = call.TakeNext x.number in let y : SharedReply T = reply.Received Empty in let st = current r.history in
      let nothing : next x.number st ≡ answer Empty st = next_empty T start.config (drops start r.starts) r.starts.buffer x.number x.position st here.stands all in
      let replies : Replies st c y = sym (ap (λ a. (outcome_of reply.Received a).reply) nothing) in
      let same : after st c y ≡ st = ap (λ a. (outcome_of reply.Received a).after) nothing in
      let e = event_by T packs value_of start (only me.0) r.history c y in
      let next_state : current (r.history ++ e ∷ []) ≡ st = after_all-snoc shared_flow (began_as start) r.history e ∙ same in
      let is_history : IsSharedHistory start.config (r.history ++ e ∷ []) = IsHistory-snoc shared_flow (began_as start) r.history e r.is_history replies here.given in (
        event_step T packs value_of start s r id me.0 me.1 c y is at r.owner r.hidden s.words None (Some x) replies here.given
            (subst (λ t. WordsFit packs value_of start t r.owner r.hidden s.words) (sym same) r.words) tt
            (λ z ne g. subst (λ t. HoldFits start t r.owner r.hidden s.words z.knows.name z.hold) (sym same) g) (stay T packs value_of start s r) posts,
        next_state,
        record {
          given = given_stays shared_flow shared_lawful (began_as start) r.history (e ∷ []) (subscriber x.number) (only me.0).knows.name is_history.legal here.given;
          stands = subst (Stands x.number x.position (capacity_of start)) (sym next_state) here.stands;
        },
      )

  -- a load of word 0 by a subscriber that has read all it knows of
  pub looking : (slots id : ℕ) (me : Me Unit V) (x : Reads) → me.0 ≡ only me.0 ∷ [] → (only me.0).reads ≡ Some x → IsAt (only me.0).start (only me.0).knows x.number x.position
      → Allows Rule slots id me 0 (λ n. n) (looks (step slots 0 0 0 none) me)
  looking slots id me x is has old s r n at small =
      let found : ℕ = get_or s.words 0 0 in let v : V = me.0 in let st = current r.history in let here = is_now s r id v (only v).knows.lost x.number x.position is at old in
      let half : found / 2 ≡ length st.emitted = half_of (length st.emitted) found r.owner r.words.word0 in let count = length_values st in
      let few : found / 2 < start.config.limit = (let less = emitted_few start.config r.history x.number _ here.stands.place in let most = r.words.few in omega (arith, half, less, most)) in
      dite (dec_le (found / 2) x.position)
      (λ all. let done = looks_empty s r id me x is at here (post_at T packs value_of start s r id v x is at has) (omega (arith, all, half)) in
      let log : found / 2 ≡ length (values (current (more_by T packs value_of start (only v) r.history (call.TakeNext x.number) (reply.Received Empty)))) = half ∙ sym count ∙ ap (λ t. length (values t)) (sym done.1) in (
        turned T packs value_of start (only v) (more_by T packs value_of start (only v) r.history (call.TakeNext x.number) (reply.Received Empty)) None (Some x) ∷ [],
        keeps,
        tt,
        loaded T packs value_of start s 0 _ done.0.0,
        λ x2 has2. let same : x ≡ x2 = same_some x x2 (sym has ∙ has2) in
            subst (λ (z : Reads). looks_at me found z (turned T packs value_of start (only v) (more_by T packs value_of start (only v) r.history (call.TakeNext x.number) (reply.Received Empty)) None (Some x) ∷ [], me.1)) same (
              (λ _. done.0.1),
              (λ more. absurd (omega (arith, more, all))),
              refl,
              refl,
              as_started s r id v (λ z. found / 2 ≡ length (log_after z (more_by T packs value_of start (only v) r.history (call.TakeNext x.number) (reply.Received Empty)))) is at log,
              as_started s r id v (λ z. IsAt z (saw (only v).knows.lost (more_by T packs value_of start (only v) r.history (call.TakeNext x.number) (reply.Received Empty)) (only v).knows) x.number x.position) is at done.2,
              as_started s r id v (λ z. found / 2 < z.config.limit) is at few,
            ),
      ))
      (λ more. let seen = sees_all T packs value_of start s r id v me.1 0 None (Some x) is at in
      let log : found / 2 ≡ length (values st) = half ∙ sym count in (
        turned_by T packs value_of start ((only v).knows.lost + 0) (only v) r.history None (Some x) ∷ [],
        keeps,
        tt,
        loaded T packs value_of start s 0 _ (quiet_by T packs value_of start s r id v is at ((only v).knows.lost + 0) r.history r.owner r.hidden s.words None (Some x) seen.0 r.words tt (λ y ne g. g) (stay T packs value_of start s r) (post_at T packs value_of start s r id v x is at has)),
        λ x2 has2. let same : x ≡ x2 = same_some x x2 (sym has ∙ has2) in
            subst (λ (z : Reads). looks_at me found z (turned_by T packs value_of start ((only v).knows.lost + 0) (only v) r.history None (Some x) ∷ [], me.1)) same (
              (λ all. absurd (more all)),
              (λ _. seen.1),
              refl,
              refl,
              as_started s r id v (λ z. found / 2 ≡ length (log_after z r.history)) is at log,
              as_started s r id v (λ z. IsAt z (saw ((only v).knows.lost + 0) r.history (only v).knows) x.number x.position) is at (is_now s r id v ((only v).knows.lost + 0) x.number x.position is at old),
              as_started s r id v (λ z. found / 2 < z.config.limit) is at few,
            ),
      ))
    where
      looks_at : Me Unit V → ℕ → Reads → Me Unit V → Type 0
      looks_at before found x after =
          (found / 2 ≤ x.position → StepCalls before (call.TakeNext x.number) (reply.Received Empty) after)
          × (x.position < found / 2 → StepSees 0 before after)
          × ((only after.0).hold ≡ None) × ((only after.0).reads ≡ Some x) × (found / 2 ≡ length (log_after (only after.0).start (only after.0).knows.seen))
          × IsAt (only after.0).start (only after.0).knows x.number x.position × (found / 2 < (only before.0).start.config.limit)

  -- what a load of a cell finds: the word of the value whose cells it reads
  pub record Loaded (s : St) (r : Rule s) (id : ℕ) (me : Me Unit V) (x : Reads) (found : ℕ) : Type 0 where
    pub at : IsAt start (saw ((only me.0).knows.lost + 0) r.history (only me.0).knows) x.number x.position
    pub words : AreFound packs value_of (capacity_of start) (values (current r.history)) x.position x.words
    pub there : x.position + length x.words < length (values (current r.history))
    pub part : IsFoundPart packs value_of (capacity_of start) (values (current r.history)) (x.position + length x.words) (x.part ++ found ∷ [])
    pub whole : length x.part + 1 ≡ start.width → length (values (current r.history)) ≤ x.position + length x.words + capacity_of start
        → HasValue packs value_of (values (current r.history)) (x.position + length x.words) (x.part ++ found ∷ [])

  load_finds : Once packs value_of → (s : St) (r : Rule s) (id : ℕ) (me : Me Unit V) (x : Reads) (i : ℕ) → me.0 ≡ only me.0 ∷ [] → get_elem? s.views id ≡ some me.0 → IsAt (only me.0).start (only me.0).knows x.number x.position
      → AreFound packs value_of (capacity_of (only me.0).start) (log_after (only me.0).start (only me.0).knows.seen) x.position x.words
      → IsFoundPart packs value_of (capacity_of (only me.0).start) (log_after (only me.0).start (only me.0).knows.seen) (x.position + length x.words) x.part
      → i ≡ cell_at start (x.position + length x.words) + length x.part → length x.part < start.width → x.position + length x.words < length (log_after (only me.0).start (only me.0).knows.seen)
      → Loaded s r id me x (get_or s.words i 0)
  load_finds once s r id me x i is at old known begun place less there = record {
    at = is_now s r id v ((only v).knows.lost + 0) x.number x.position is at old;
    words = found_now s r id v x.position x.words is at known;
    there = there_now;
    part = part_now;
    whole = λ all kept. begun_whole packs value_of (values st) q start.width s.words (cell_at start q) (here kept) (x.part ++ found ∷ []) (length-append x.part (found ∷ []) ∙ all) (part_now kept);
  }
    where
      found : ℕ
      found = get_or s.words i 0

      v : V
      v = me.0

      q : ℕ
      q = x.position + length x.words

      st : SharedFlowState T
      st = current r.history

      grown : (more : List T) × (log_after start r.history ≡ log_after (only v).start (only v).knows.seen ++ more)
      grown = log_now s r id v is at

      longer : length (values st) ≡ length (log_after (only v).start (only v).knows.seen) + length grown.0
      longer = ap length grown.1 ∙ length-append (log_after (only v).start (only v).knows.seen) grown.0

      there_now : q < length (values st)
      there_now = omega (arith, there, longer)

      here : length (values st) ≤ q + capacity_of start → HasValue packs value_of (values st) q (words_from start.width s.words (cell_at start q))
      here kept = let count = length_values st in r.words.cells q (omega (arith, there_now, count)) (omega (arith, kept, count))

      part_now : IsFoundPart packs value_of (capacity_of start) (values st) q (x.part ++ found ∷ [])
      part_now kept =
          let room = ap capacity_of (started T packs value_of start s r id v is at) in
          let before : IsBegun packs value_of (values st) q x.part = λ w has.
          begun (omega (arith, kept, longer, room)) w (has.0, sym (slice_get_left (log_after (only v).start (only v).knows.seen) grown.0 q there) ∙ ap (λ l. slice_get l q) (sym grown.1) ∙ has.1) in
          subst (λ j. IsBegun packs value_of (values st) q (x.part ++ get_or s.words j 0 ∷ [])) (sym place) (begun_more packs value_of (values st) q start.width s.words (cell_at start q) once (here kept) x.part less before)

  -- a load of a cell of the position after those whose cells it has read, which is not its last one
  pub reading_part_of : Once packs value_of → (slots id : ℕ) (me : Me Unit V) (x : Reads) (i : ℕ) → me.0 ≡ only me.0 ∷ [] → (only me.0).reads ≡ Some x → IsAt (only me.0).start (only me.0).knows x.number x.position
      → AreFound packs value_of (capacity_of (only me.0).start) (log_after (only me.0).start (only me.0).knows.seen) x.position x.words
      → IsFoundPart packs value_of (capacity_of (only me.0).start) (log_after (only me.0).start (only me.0).knows.seen) (x.position + length x.words) x.part
      → i ≡ cell_at start (x.position + length x.words) + length x.part → length x.part < start.width → x.position + length x.words < length (log_after (only me.0).start (only me.0).knows.seen)
      → Allows Rule slots id me i (λ n. n) (reads_part packs value_of (step slots i 0 0 none) me)
  reading_part_of once slots id me x i is has old known begun place less there s r n at small = (
    k ∷ [],
    keeps,
    tt,
    loaded T packs value_of start s i _ (quiet_by T packs value_of start s r id v is at ((only v).knows.lost + 0) r.history r.owner r.hidden s.words None (Some got) seen.0 r.words tt (λ y ne g. g) (stay T packs value_of start s r) (post_at T packs value_of start s r id v x is at has)),
    λ x2 has2. subst (λ (z : Reads). Tells z) (same_some x x2 (sym has ∙ has2)) (
      seen.1,
      refl,
      refl,
      as_started s r id v (λ z. IsAt z k.knows x.number x.position) is at all.at,
      as_started s r id v (λ z. AreFound packs value_of (capacity_of z) (log_after z r.history) x.position x.words) is at all.words,
      as_started s r id v (λ z. IsFoundPart packs value_of (capacity_of z) (log_after z r.history) (x.position + length x.words) (x.part ++ found ∷ [])) is at all.part,
    ),
  )
    where
      found : ℕ
      found = get_or s.words i 0

      v : V
      v = me.0

      got : Reads
      got = record x { part = x.part ++ found ∷ [] }

      k : RingKnown T
      k = turned_by T packs value_of start ((only v).knows.lost + 0) (only v) r.history None (Some got)

      seen : Fits r.history (saw ((only v).knows.lost + 0) r.history (only v).knows) × StepSees 0 me (k ∷ [], me.1)
      seen = sees_all T packs value_of start s r id v me.1 0 None (Some got) is at

      all : Loaded s r id me x found
      all = load_finds once s r id me x i is at old known begun place less there

      Tells : Reads → Type 0
      Tells z = StepSees 0 me (k ∷ [], me.1) × ◌≡◌ {A = Option Hold} None None × ◌≡◌ {A = Option Reads} (Some got) (Some (record z { part = z.part ++ found ∷ [] }))
          × IsAt (only v).start k.knows z.number z.position × AreFound packs value_of (capacity_of (only v).start) (log_after (only v).start r.history) z.position z.words
          × IsFoundPart packs value_of (capacity_of (only v).start) (log_after (only v).start r.history) (z.position + length z.words) (z.part ++ found ∷ [])

  -- a load of the last cell of that position
  pub reading_cell : Once packs value_of → (slots id : ℕ) (me : Me Unit V) (x : Reads) (i : ℕ) → me.0 ≡ only me.0 ∷ [] → (only me.0).reads ≡ Some x → IsAt (only me.0).start (only me.0).knows x.number x.position
      → AreFound packs value_of (capacity_of (only me.0).start) (log_after (only me.0).start (only me.0).knows.seen) x.position x.words
      → IsFoundPart packs value_of (capacity_of (only me.0).start) (log_after (only me.0).start (only me.0).knows.seen) (x.position + length x.words) x.part
      → i ≡ cell_at start (x.position + length x.words) + length x.part → length x.part + 1 ≡ start.width → x.position + length x.words < length (log_after (only me.0).start (only me.0).knows.seen)
      → Allows Rule slots id me i (λ n. n) (reads_cell packs value_of (step slots i 0 0 none) me)
  reading_cell once slots id me x i is has old known begun place whole there s r n at small = (
    k ∷ [],
    keeps,
    tt,
    loaded T packs value_of start s i _ (quiet_by T packs value_of start s r id v is at ((only v).knows.lost + 0) r.history r.owner r.hidden s.words None (Some got) seen.0 r.words tt (λ y ne g. g) (stay T packs value_of start s r) (post_at T packs value_of start s r id v x is at has)),
    λ x2 has2. subst (λ (z : Reads). Tells z) (same_some x x2 (sym has ∙ has2)) (
      seen.1,
      refl,
      refl,
      as_started s r id v (λ z. IsAt z k.knows x.number x.position) is at all.at,
      as_started s r id v (λ z. AreFound packs value_of (capacity_of z) (log_after z r.history) x.position (x.words ++ (x.part ++ found ∷ []) ∷ [])) is at
          (found_more packs value_of (capacity_of start) (log_after start r.history) x.position x.words (x.part ++ found ∷ []) all.words (record { there = all.there; value = all.whole whole })),
    ),
  )
    where
      found : ℕ
      found = get_or s.words i 0

      v : V
      v = me.0

      got : Reads
      got = reading_at x.post x.number x.position (x.words ++ (x.part ++ found ∷ []) ∷ [])

      k : RingKnown T
      k = turned_by T packs value_of start ((only v).knows.lost + 0) (only v) r.history None (Some got)

      seen : Fits r.history (saw ((only v).knows.lost + 0) r.history (only v).knows) × StepSees 0 me (k ∷ [], me.1)
      seen = sees_all T packs value_of start s r id v me.1 0 None (Some got) is at

      all : Loaded s r id me x found
      all = load_finds once s r id me x i is at old known begun place (omega (arith, whole)) there

      Tells : Reads → Type 0
      Tells z = StepSees 0 me (k ∷ [], me.1) × ◌≡◌ {A = Option Hold} None None × ◌≡◌ {A = Option Reads} (Some got) (Some (reading_at z.post z.number z.position (z.words ++ (z.part ++ found ∷ []) ∷ [])))
          × IsAt (only v).start k.knows z.number z.position × AreFound packs value_of (capacity_of (only v).start) (log_after (only v).start r.history) z.position (z.words ++ (z.part ++ found ∷ []) ∷ [])
