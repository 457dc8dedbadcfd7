-- The steps of subscribers on their own places keep the rule of the table. Begin with `advancing`: a store, which is a `next`.
use Rattle.std.proofs.Common.{◌≡◌, ◌≢◌, ℕ, Bool, true, false, ◌+◌, ◌-◌, ◌*◌, ◌/◌, ◌%◌, ◌<◌, ◌≤◌, List, [], ◌∷◌, ◌++◌, length, get_or, set, Option, Some, None, refl, sym, ap, ◌∙◌, subst, ⊎_elim, length-append, arith}
use Rattle.std.proofs.lemmas.List.{get_or-set_other, length-set}
use Rattle.std.specs.Prelude.{max}
use mathlib.Core.Option.{none, some}
use lib.ListN.{get_elem?}
use Rattle.atomic_table.specs.Table.{State, Me, step, keeps, Allows}
use Rattle.flow_law.specs.declared.outcome.Next.TheVariants.{Value}
use Rattle.flow_law.specs.declared.call.SharedCall.{SharedCall}
use Rattle.flow_law.specs.declared.call.SharedCall.TheVariants as call
use Rattle.flow_law.specs.declared.call.SharedReply.{SharedReply}
use Rattle.flow_law.specs.declared.call.SharedReply.TheVariants as reply
use Rattle.flow_law.specs.declared.states.SharedFlowState.{SharedFlowState}
use Rattle.flow_law.specs.history.History.{subscriber}
use Rattle.flow_law.specs.flow.SharedFlow.{values, answer, move_to, position_of}
use Rattle.flow_law.specs.flow.SharedStep.{next}
use Rattle.flow_law.specs.flow.SharedHistory.{History, outcome_of, Replies, after, shared_flow, IsSharedHistory}
use Rattle.flow_law.proofs.Boxes.{length_values}
use Rattle.flow_law.proofs.HistoryLemmas.{after_all-snoc, IsHistory-snoc}
use Rattle.flow_law.proofs.Owners.{given_stays}
use Rattle.flow_law.proofs.SharedLawful.{shared_lawful}
use Rattle.flow_word_shared.specs.declared.view.RingKnown.{RingKnown}
use Rattle.flow_word_shared.specs.declared.view.Post.{Post}
use Rattle.flow_word_shared.specs.declared.view.Hold.{Hold}
use Rattle.flow_word_shared.specs.declared.view.Reads.{Reads}
use Rattle.flow_word_shared.specs.declared.view.RingStart.{RingStart}
use Rattle.flow_word_shared.specs.Rule.{head, capacity_of, cell_at, place_at, owner_at, IsOwned, HasValue, PlacesFit, WordsFit, HoldFits, one_if, PostFits, RingHolds}
use Rattle.flow_word_shared.specs.Steps.{Stands, IsAt, AreFound, log_after, StepCalls}
use Rattle.flow_word_shared.specs.PlaceSteps.{flags, advances}
use Rattle.flow_word_shared.specs.View.{began_as, ring_known, only, saw, reading_at}
use Rattle.flow_word_shared.proofs.Cells.{cells_within, words_kept}
use Rattle.flow_word_shared.proofs.PlaceRule.{drops, low_from}
use Rattle.flow_word_shared.proofs.PlaceSteps.{tail_set}
use Rattle.flow_word_shared.proofs.PlaceMoves.{this_place, reads_beside, hold_beside, places_flagged, places_moved}
use Rattle.flow_word_shared.proofs.Oldest.{Usual, usual_after, length-move_to, next_value, stands_next}
use Rattle.flow_word_shared.proofs.Keeps.{same_some, now, more_by, event_by, turned, started, fits_at, post_at, event_with, quiet_with}
use Rattle.flow_word_shared.proofs.ReadSteps.{is_now, found_now, log_now}

-- the first of some lists
abbrev first_of : List (List ℕ) → List ℕ
first_of [] = []
first_of (w ∷ ws) = w

one_few : (b : Bool) → one_if b ≤ 1
one_few true = omega arith
one_few false = omega arith

module _ (T : Type 0) (packs : List ℕ → Type 0) (value_of : List ℕ → T) (start : RingStart) where
  abbrev V : Type 0
  V = List (RingKnown T)

  abbrev St : Type 0
  St = State Unit V

  abbrev Rule : St → Type 0
  Rule = RingHolds packs value_of start

  abbrev current : History T → SharedFlowState T
  current h = now T packs value_of start h

  -- what the table has at the subscriber's own place
  pub record Own (s : St) (r : Rule s) (name : List ℕ) (x : Reads) (post : Post) : Type 0 where
    pub there : post.place < start.places
    pub owner : owner_at r.hidden.owners post.place ≡ Some (record { name = name; number = x.number })
    pub owned : IsOwned x.number (owner_at r.hidden.owners post.place)
    pub word : get_or s.words (place_at start post.place) 0 ≡ 2 * x.position + 2 + one_if post.moves
    pub shown : 2 ≤ get_or s.words (place_at start post.place) 0
    pub half : get_or s.words (place_at start post.place) 0 / 2 ≡ x.position + 1
    pub kept : length (current r.history).emitted ≤ x.position + capacity_of start

  pub own_at : (s : St) (r : Rule s) (id : ℕ) (v : V) (x : Reads) (post : Post) → v ≡ only v ∷ [] → get_elem? s.views id ≡ some v → (only v).reads ≡ Some x → x.post ≡ Some post → Own s r (only v).knows.name x post
  own_at s r id v x post is at has posted =
      let mine = subst (PostFits start r.hidden.owners s.words (only v).knows.name x.number x.position) posted (post_at T packs value_of start s r id v x is at has) in
      let few = one_few post.moves in let word = mine.2 in record {
        there = mine.0;
        owner = mine.1;
        owned = subst (IsOwned x.number) (sym mine.1) refl;
        word = word;
        shown = omega (arith, word);
        half = omega (arith, word, few);
        kept = ⊎_elim (λ none. absurd (omega (arith, none, word))) (λ old. let l = old.2 in omega (arith, l, word, few)) (r.words.places.each post.place mine.0);
      }

  -- where the subscriber stands
  stands_there : (s : St) (r : Rule s) (id : ℕ) (v : V) (x : Reads) (post : Post) → v ≡ only v ∷ [] → get_elem? s.views id ≡ some v → Own s r (only v).knows.name x post → IsAt (only v).start (only v).knows x.number x.position
      → position_of x.number (current r.history).subscribers ≡ Some x.position
  stands_there s r id v x post is at own old =
      let here = is_now T packs value_of start s r id v (only v).knows.lost x.number x.position is at old in let kept = own.kept in
      here.stands.place ∙ ap Some (let l : max x.position (length (current r.history).emitted - capacity_of start) ≡ x.position = omega (arith, kept) in l)

  -- ---- a store that only says that the subscriber comes or leaves, or does not

  flagging_at : (slots id : ℕ) (me : Me Unit V) (moves : Bool) (x : Reads) (post : Post) (new : ℕ) → me.0 ≡ only me.0 ∷ [] → (only me.0).reads ≡ Some x → x.post ≡ Some post → new ≡ 2 * x.position + 2 + one_if moves
      → (moves ≡ false → IsAt (only me.0).start (only me.0).knows x.number x.position) → Allows Rule slots id me (place_at start post.place) (λ _. new) (λ _. flags moves (step slots (place_at start post.place) new 0 none) me new)
  flagging_at slots id me moves x post new is has posted word old s r n at small = (
    turned T packs value_of start (only me.0) (only me.0).knows.seen None (Some x') ∷ [],
    keeps,
    tt,
    quiet_with T packs value_of start s r id me.0 is at (only me.0).knows.lost (only me.0).knows.seen r.owner r.hidden (set s.words i new) None (Some x') (fits_at T packs value_of start s r id me.0 is at)
        (tail_set T packs value_of start st r.owner r.hidden s.words i new r.starts (low_from start post.place)
        (places_flagged start st r.hidden.owners s.words post.place new x.number x.position r.words.places r.words.count own.there own.owned own.half own.shown half here) r.words) tt
        (λ y ne g. hold_beside start r.hidden.owners s.words post.place new (only me.0).knows.name x.number own.owner st st r.owner r.hidden y.knows.name y.hold refl r.starts refl refl refl ne r.words.count own.there some_word (λ _. rises) g)
        (λ y ne g. reads_beside start r.hidden.owners s.words post.place new (only me.0).knows.name x.number own.owner y.knows.name y.reads ne g)
        (own.there, own.owner, this_place start r.hidden.owners s.words post.place new r.words.count own.there ∙ word),
    λ x2 post2 has2 posted2. let same : x ≡ x2 = same_some x x2 (sym has ∙ has2) in let same_post : post ≡ post2 = same_some post post2 (sym posted ∙ (ap (λ (z : Reads). z.post) same ∙ posted2)) in
        λ k. (ring_known (only me.0).knows (only me.0).start None (Some (record (same k) { post = Some (record (same_post k) { moves = moves }) })) ∷ [], me.1),
  )
    where
      i : ℕ
      i = place_at start post.place

      x' : Reads
      x' = record x { post = Some (record post { moves = moves }) }

      st : SharedFlowState T
      st = current r.history

      own : Own s r (only me.0).knows.name x post
      own = own_at s r id me.0 x post is at has posted

      half : new / 2 ≡ x.position + 1
      half = let few = one_few moves in omega (arith, word, few)

      some_word : get_or s.words i 0 ≢ 0
      some_word e = let l = own.shown in absurd (omega (arith, e, l))

      rises : get_or s.words i 0 / 2 ≤ new / 2
      rises = let l = own.half in omega (arith, l, half)

      here : new % 2 ≡ 0 → position_of x.number st.subscribers ≡ Some x.position
      here even = by moves refl
        where
          by : (b : Bool) → moves ≡ b → position_of x.number st.subscribers ≡ Some x.position
          by true e = let one : one_if moves ≡ 1 = ap one_if e in absurd (omega (arith, even, word, one))
          by false e = stands_there s r id me.0 x post is at own (old e)

  pub flagging : (slots id : ℕ) (me : Me Unit V) (moves : Bool) (x : Reads) (post : Post) (i new : ℕ) → me.0 ≡ only me.0 ∷ [] → (only me.0).reads ≡ Some x → x.post ≡ Some post → i ≡ place_at start post.place → new ≡ 2 * x.position + 2 + one_if moves
      → (moves ≡ false → IsAt (only me.0).start (only me.0).knows x.number x.position) → Allows Rule slots id me i (λ _. new) (λ _. flags moves (step slots i new 0 none) me new)
  flagging slots id me moves x post i new is has posted place word old =
      subst (λ j. Allows Rule slots id me j (λ _. new) (λ _. flags moves (step slots j new 0 none) me new)) (sym place) (flagging_at slots id me moves x post new is has posted word old)

  -- ---- a store that is a `next`

  advancing_at : (slots id : ℕ) (me : Me Unit V) (x : Reads) (post : Post) (word : List ℕ) (new : ℕ) → me.0 ≡ only me.0 ∷ [] → (only me.0).reads ≡ Some x → x.post ≡ Some post → post.moves ≡ false → x.words ≡ word ∷ [] → new ≡ 2 * x.position + 4
      → IsAt (only me.0).start (only me.0).knows x.number x.position → AreFound packs value_of (capacity_of (only me.0).start) (log_after (only me.0).start (only me.0).knows.seen) x.position (word ∷ [])
      → Allows Rule slots id me (place_at start post.place) (λ _. new) (λ _. advances packs value_of (step slots (place_at start post.place) new 0 none) me new)
  advancing_at slots id me x post word new is has posted stays words_are new_is old known s r n at small = (
    turned T packs value_of start (only me.0) h' None (Some got) ∷ [],
    keeps,
    tt,
    done.0,
    λ x2 word2 has2 words2. let same : x ≡ x2 = same_some x x2 (sym has ∙ has2) in
        let same_word : word ≡ word2 = ap first_of (sym words_are ∙ (ap (λ (z : Reads). z.words) same ∙ words2)) in
        subst (λ (z : Reads × List ℕ). Tells z.0 z.1) (λ k. (same k, same_word k)) (value.0, done.1, refl, refl, as_start (λ z. IsAt z (saw (only me.0).knows.lost h' (only me.0).knows) u (p + 1)) stands_at, longer),
  )
    where
      i : ℕ
      i = place_at start post.place

      u : ℕ
      u = x.number

      p : ℕ
      p = x.position

      st : SharedFlowState T
      st = current r.history

      own : Own s r (only me.0).knows.name x post
      own = own_at s r id me.0 x post is at has posted

      here : IsAt start (saw (only me.0).knows.lost r.history (only me.0).knows) u p
      here = is_now T packs value_of start s r id me.0 (only me.0).knows.lost u p is at old

      usual : Usual T start.config (drops start r.starts) r.starts.buffer st
      usual = usual_after T start.config (drops start r.starts) r.starts.buffer r.history

      now_found : AreFound packs value_of (capacity_of start) (values st) p (word ∷ [])
      now_found = found_now T packs value_of start s r id me.0 p (word ∷ []) is at known

      value : HasValue packs value_of (values st) p word
      value = let kept = own.kept in let count = length_values st in now_found.0.value (omega (arith, kept, count))

      more : p < length st.emitted
      more = let l = now_found.0.there in let count = length_values st in omega (arith, l, count)

      moved : SharedFlowState T
      moved = record st { subscribers = move_to u (p + 1) st.subscribers; queue = [] }

      c : SharedCall T
      c = call.TakeNext u

      y : SharedReply T
      y = reply.Received (Value (value_of word))

      gives : next u st ≡ answer (Value (value_of word)) moved
      gives = next_value T start.config (drops start r.starts) r.starts.buffer u p st (value_of word) usual here.stands own.kept value.1

      replies : Replies st c y
      replies = sym (ap (λ a. (outcome_of reply.Received a).reply) gives)

      then_is : after st c y ≡ moved
      then_is = ap (λ a. (outcome_of reply.Received a).after) gives

      h' : History T
      h' = more_by T packs value_of start (only me.0) r.history c y

      next_state : current h' ≡ moved
      next_state = after_all-snoc shared_flow (began_as start) r.history (event_by T packs value_of start (only me.0) r.history c y) ∙ then_is

      is_history : IsSharedHistory start.config h'
      is_history = IsHistory-snoc shared_flow (began_as start) r.history (event_by T packs value_of start (only me.0) r.history c y) r.is_history replies here.given

      got : Reads
      got = reading_at x.post u (p + 1) []

      some_word : get_or s.words i 0 ≢ 0
      some_word e = let l = own.shown in absurd (omega (arith, e, l))

      rises : get_or s.words i 0 / 2 ≤ new / 2
      rises = let l = own.half in omega (arith, l, new_is)

      places : PlacesFit start moved r.hidden.owners (set s.words i new)
      places = places_moved start st r.hidden.owners s.words post.place new u p r.words.places r.words.count own.there own.owned own.half own.shown (omega (arith, new_is)) (stands_there s r id me.0 x post is at own old)

      before_places : (j : ℕ) → j < head → get_or (set s.words i new) j 0 ≡ get_or s.words j 0
      before_places j less = get_or-set_other s.words i j new 0 (λ e. absurd (omega (arith, less, e)))

      fit : WordsFit packs value_of start moved r.owner r.hidden (set s.words i new)
      fit = let w = r.words in record {
        count = length-set s.words i new ∙ w.count;
        word0 = before_places 0 (omega arith) ∙ w.word0;
        few = w.few;
        made = subst (λ m. m + length st.emitted ≡ st.issued + r.hidden.ahead) (sym (before_places 1 (omega arith))) w.made;
        live = before_places 2 (omega arith) ∙ w.live ∙ sym (length-move_to u (p + 1) st.subscribers);
        mark = before_places 3 (omega arith) ∙ w.mark;
        cells = λ k a b. subst (HasValue packs value_of (values st) k)
            (sym (words_kept start.width s.words i new (cell_at start k) (λ q begin less e. let within = cells_within start r.starts k in absurd (omega (arith, less, e, within))))) (w.cells k a b);
        rested = w.rested;
        places = places;
      }

      stands_at : IsAt start (saw (only me.0).knows.lost h' (only me.0).knows) u (p + 1)
      stands_at = record {
        given = given_stays shared_flow shared_lawful (began_as start) r.history (event_by T packs value_of start (only me.0) r.history c y ∷ []) (subscriber u) (only me.0).knows.name is_history.legal here.given;
        stands = subst (Stands u (p + 1) (capacity_of start)) (sym next_state) (stands_next T start.config (drops start r.starts) r.starts.buffer u p st here.stands more own.kept);
      }

      as_start : (F : RingStart → Type 0) → F start → F (only me.0).start
      as_start F f = subst F (sym (started T packs value_of start s r id me.0 is at)) f

      grown : (between : List T) × (log_after start r.history ≡ log_after (only me.0).start (only me.0).knows.seen ++ between)
      grown = log_now T packs value_of start s r id me.0 is at

      longer : length (log_after (only me.0).start (only me.0).knows.seen) ≤ length (log_after (only me.0).start h')
      longer =
          let all = ap length grown.1 ∙ length-append (log_after (only me.0).start (only me.0).knows.seen) grown.0 in
          let same = ap (λ (t : SharedFlowState T). length (values t)) next_state in
          let from = ap (λ (z : RingStart). length (log_after z h')) (started T packs value_of start s r id me.0 is at) in omega (arith, all, same, from)

      done : Rule record { words = set s.words i new; homes = s.homes; views = set s.views id (turned T packs value_of start (only me.0) h' None (Some got) ∷ []) }
          × StepCalls (me.0, me.1) c y (turned T packs value_of start (only me.0) h' None (Some got) ∷ [], me.1)
      done = event_with T packs value_of start s r id me.0 me.1 c y is at r.owner r.hidden (set s.words i new) None (Some got) replies here.given
          (subst (λ t. WordsFit packs value_of start t r.owner r.hidden (set s.words i new)) (sym then_is) fit) tt
          (λ z ne g. subst (λ t. HoldFits start t r.owner r.hidden (set s.words i new) z.knows.name z.hold) (sym then_is)
          (hold_beside start r.hidden.owners s.words post.place new (only me.0).knows.name u own.owner st moved r.owner r.hidden z.knows.name z.hold refl r.starts refl refl refl ne r.words.count own.there some_word (λ _. rises) g))
          (λ z ne g. reads_beside start r.hidden.owners s.words post.place new (only me.0).knows.name u own.owner z.knows.name z.reads ne g)
          (subst (PostFits start r.hidden.owners (set s.words i new) (only me.0).knows.name u (p + 1)) (sym posted)
          (own.there, own.owner, this_place start r.hidden.owners s.words post.place new r.words.count own.there ∙ (let none : one_if post.moves ≡ 0 = ap one_if stays in omega (arith, new_is, none))))

      -- what the play says
      Tells : Reads → List ℕ → Type 0
      Tells z w = packs w × StepCalls me (call.TakeNext z.number) (reply.Received (Value (value_of w))) (turned T packs value_of start (only me.0) h' None (Some got) ∷ [], me.1) × ◌≡◌ {A = Option Hold} None None
          × ◌≡◌ {A = Option Reads} (Some got) (Some (reading_at z.post z.number (z.position + 1) [])) × IsAt (only me.0).start (saw (only me.0).knows.lost h' (only me.0).knows) z.number (z.position + 1)
          × (length (log_after (only me.0).start (only me.0).knows.seen) ≤ length (log_after (only me.0).start h'))

  pub advancing : (slots id : ℕ) (me : Me Unit V) (x : Reads) (post : Post) (word : List ℕ) (i new : ℕ) → me.0 ≡ only me.0 ∷ [] → (only me.0).reads ≡ Some x → x.post ≡ Some post → post.moves ≡ false → x.words ≡ word ∷ []
      → i ≡ place_at start post.place → new ≡ 2 * x.position + 4
      → IsAt (only me.0).start (only me.0).knows x.number x.position → AreFound packs value_of (capacity_of (only me.0).start) (log_after (only me.0).start (only me.0).knows.seen) x.position (word ∷ [])
      → Allows Rule slots id me i (λ _. new) (λ _. advances packs value_of (step slots i new 0 none) me new)
  advancing slots id me x post word i new is has posted stays words_are place new_is old known =
      subst (λ j. Allows Rule slots id me j (λ _. new) (λ _. advances packs value_of (step slots j new 0 none) me new)) (sym place) (advancing_at slots id me x post word new is has posted stays words_are new_is old known)
