-- What a checker of state flows keeps of each caller, and the subscribers of the documented flow. Begin with `StandsAs`.
use Rattle.std.proofs.Common.{◌≡◌, ◌≢◌, ℕ, ◌+◌, ◌<◌, ◌≤◌, Bool, cond, List, [], ◌∷◌, ◌++◌, length, set, get_or, Option, Some, None, refl, sym, ap, ◌∙◌, subst, inl, inr, arith, ne_eqb, length-set, length-append, le_refl}
use Rattle.std.specs.Prelude.{is_some}
use Rattle.std.proofs.lemmas.Bool.Decides.{eqb_tells}
use Rattle.std.proofs.lemmas.Option.{same_Some}
use Rattle.flow_law.specs.declared.states.StateSubscriber.{StateSubscriber}
use Rattle.flow_law.specs.declared.states.StateFlowState.{StateFlowState}
use Rattle.flow_law.specs.history.History.{subscriber, Owner, owner_of}
use Rattle.flow_law.specs.flow.StateFlow.{last_got_by, with_last, without_subscriber}
use Rattle.flow_law.proofs.Owners.{UpTo, up_to_more, owned_up_to, owner_of_older, newest_owner}
use Rattle.flow_law.proofs.StateSubscriberLemmas.{last-snoc, last-snoc_other, last-with, last-with_other, last-without, last-without_other}
use Rattle.flow_law.proofs.StateCounts.{none_above, one_fewer, length-with, Once}
use Rattle.flow_law.proofs.StateCounts as counts
use Rattle.flow_check.specs.StateRecords.{caller_name}
use Rattle.flow_check.specs.Subscribed.{present}
use Rattle.flow_check.specs.StateMachine.{StateKept, reader_of, with_reader}
use Rattle.flow_check.proofs.KeptLemmas.{kept_at, kept-set_same, kept-set_other, present-set_more, present-set_same, present-set_fewer}

abbrev pub Subscribers : Type 0
Subscribers = List (StateSubscriber ℕ)

abbrev pub IsOwn : ℕ → ℕ → List Owner → Type 0
IsOwn caller u owners = owner_of (subscriber u) owners ≡ Some (caller_name caller)

-- What is kept of a caller. If it is subscribed, one of its numbers is a subscriber's; else none is.
abbrev pub Seat : List Owner → Subscribers → ℕ → Option (Option ℕ) → Type 0
Seat owners us caller None = (u : ℕ) → IsOwn caller u owners → last_got_by u us ≡ None
Seat owners us caller (Some last) =
    (n : ℕ) × IsOwn caller n owners × (last_got_by n us ≡ Some last) × ((u : ℕ) → IsOwn caller u owners → u ≢ n → last_got_by u us ≡ None)

-- the state m of a checker stands for the state s that k turns led to, after which the numbers have these owners
pub record StandsAs (size : ℕ) (m : StateKept) (k : ℕ) (s : StateFlowState ℕ) (owners : List Owner) : Type 0 where
  pub value : s.value ≡ m.value
  pub readers : length m.readers ≡ size
  pub count : length s.subscribers ≡ present m.readers
  pub seats : (caller : ℕ) → caller < size → Seat owners s.subscribers caller (reader_of caller m.readers)
  pub issued : s.issued ≤ k
  pub owned : UpTo s.issued owners

-- what every legal history leads to
pub record IsSound (s : StateFlowState ℕ) : Type 0 where
  pub numbers : counts.UpTo s.issued s.subscribers
  pub once : Once s.subscribers

-- ---- seats

-- a seat stays as it is if its caller's numbers do
seat_stays : (owners : List Owner) (us vs : Subscribers) (caller : ℕ) (reader : Option (Option ℕ)) → ((u : ℕ) → IsOwn caller u owners → last_got_by u vs ≡ last_got_by u us)
    → Seat owners us caller reader → Seat owners vs caller reader
seat_stays owners us vs caller None same seat = λ u own. same u own ∙ seat u own
seat_stays owners us vs caller (Some last) same seat = (seat.0, seat.1, same seat.0 seat.1 ∙ seat.2, λ u own apart. same u own ∙ seat.3 u own apart)

-- a number is one caller's
pub other_number : (owners : List Owner) (i j u v : ℕ) → i ≢ j → IsOwn i u owners → IsOwn j v owners → u ≢ v
other_number owners i j u v apart own other e =
    let names = same_Some (caller_name i) (caller_name j) (sym own ∙ subst (λ (n : ℕ). IsOwn j n owners) (sym e) other) in
    apart (ap (λ (name : List ℕ). get_or name 0 0) names)

module _ (size : ℕ) (m : StateKept) (k : ℕ) (s : StateFlowState ℕ) (owners : List Owner) (st : StandsAs size m k s owners) where
  -- another turn that changes nothing
  pub later : StandsAs size m (k + 1) s owners
  later = let upto = st.issued in record { value = st.value; readers = st.readers; count = st.count; seats = st.seats; issued = omega arith; owned = st.owned }

  -- if one of the caller's numbers is a subscriber's, it is the number of the caller's subscription
  pub is_its : (caller u : ℕ) (last : Option ℕ) → Seat owners s.subscribers caller (Some last) → IsOwn caller u owners → (last_got_by u s.subscribers ≡ None → ⊥) → last_got_by u s.subscribers ≡ Some last
  is_its caller u last seat own there = elim (eqb_tells u seat.0) [
    | inl e ↦ subst (λ (n : ℕ). last_got_by n s.subscribers ≡ Some last) (sym e.1) seat.2
    | inr e ↦ absurd (there (seat.3 u own e.1))
  ]

  others_of : (caller u : ℕ) (last : Option ℕ) → Seat owners s.subscribers caller (Some last) → IsOwn caller u owners → (last_got_by u s.subscribers ≡ None → ⊥)
      → (v : ℕ) → IsOwn caller v owners → v ≢ u → last_got_by v s.subscribers ≡ None
  others_of caller u last seat own there v its apart = elim (eqb_tells u seat.0) [
    | inl e ↦ seat.3 v its (λ q. apart (q ∙ sym e.1))
    | inr e ↦ absurd (there (seat.3 u own e.1))
  ]

  module _ (caller : ℕ) (near : caller < size) where
    low : caller < length m.readers
    low = let is = st.readers in omega arith

    -- the caller gets a value by its subscription
    pub received : (u v : ℕ) (last : Option ℕ) → reader_of caller m.readers ≡ Some last → IsOwn caller u owners → (last_got_by u s.subscribers ≡ None → ⊥)
        → StandsAs size (with_reader caller (Some (Some v)) m) (k + 1) (record s { subscribers = with_last u v s.subscribers }) owners
    received u v last is own there = let upto = st.issued in
        let seat = subst (Seat owners s.subscribers caller) is (st.seats caller near) in record {
          value = st.value;
          readers = length-set m.readers caller (Some (Some v)) ∙ st.readers;
          count = length-with u v s.subscribers ∙ st.count ∙ sym (present-set_same m.readers caller (Some v) last (kept_at m.readers caller low ∙ ap Some is));
          seats = λ j l. elim (eqb_tells caller j) [
            | inl e ↦ subst (λ (i : ℕ). Seat owners (with_last u v s.subscribers) i (reader_of i (set m.readers caller (Some (Some v))))) e.1
                (subst (Seat owners (with_last u v s.subscribers) caller) (sym (kept-set_same m.readers caller (Some (Some v)) low)) (
                  u,
                  own,
                  last-with u v last s.subscribers (is_its caller u last seat own there),
                  λ w its apart. last-with_other w u v s.subscribers (ne_eqb u w (λ q. apart (sym q))) ∙ others_of caller u last seat own there w its apart,
                ))
            | inr e ↦ let far : j < length m.readers = let is = st.readers in omega arith in
                subst (Seat owners (with_last u v s.subscribers) j) (sym (kept-set_other m.readers caller j (Some (Some v)) e.1 far))
                (seat_stays owners s.subscribers (with_last u v s.subscribers) j (reader_of j m.readers)
                (λ w its. last-with_other w u v s.subscribers (ne_eqb u w (other_number owners caller j u w e.1 own its))) (st.seats j l))
          ];
          issued = omega arith;
          owned = st.owned;
        }

    -- the caller had the current value
    pub had : (v : ℕ) → reader_of caller m.readers ≡ Some (Some v) → StandsAs size (with_reader caller (Some (Some v)) m) (k + 1) s owners
    had v is = let upto = st.issued in record {
      value = st.value;
      readers = length-set m.readers caller (Some (Some v)) ∙ st.readers;
      count = st.count ∙ sym (present-set_same m.readers caller (Some v) (Some v) (kept_at m.readers caller low ∙ ap Some is));
      seats = λ j l. elim (eqb_tells caller j) [
        | inl e ↦ subst (λ (i : ℕ). Seat owners s.subscribers i (reader_of i (set m.readers caller (Some (Some v))))) e.1
            (subst (Seat owners s.subscribers caller) (is ∙ sym (kept-set_same m.readers caller (Some (Some v)) low)) (st.seats caller near))
        | inr e ↦ let far : j < length m.readers = let is = st.readers in omega arith in
            subst (Seat owners s.subscribers j) (sym (kept-set_other m.readers caller j (Some (Some v)) e.1 far)) (st.seats j l)
      ];
      issued = omega arith;
      owned = st.owned;
    }

    -- the caller's subscription ends
    pub left : (u : ℕ) (last : Option ℕ) → IsSound s → reader_of caller m.readers ≡ Some last → IsOwn caller u owners → (last_got_by u s.subscribers ≡ None → ⊥)
        → StandsAs size (with_reader caller None m) (k + 1) (record s { subscribers = without_subscriber u s.subscribers }) owners
    left u last sound is own there = let upto = st.issued in
        let seat = subst (Seat owners s.subscribers caller) is (st.seats caller near) in
        let before = st.count in
        let fewer = one_fewer u s.subscribers sound.once (ap is_some (is_its caller u last seat own there)) in
        let kept = present-set_fewer m.readers caller last (kept_at m.readers caller low ∙ ap Some is) in record {
          value = st.value;
          readers = length-set m.readers caller None ∙ st.readers;
          count = omega arith;
          seats = λ j l. elim (eqb_tells caller j) [
            | inl e ↦ subst (λ (i : ℕ). Seat owners (without_subscriber u s.subscribers) i (reader_of i (set m.readers caller None))) e.1
                (subst (Seat owners (without_subscriber u s.subscribers) caller) (sym (kept-set_same m.readers caller None low))
                (λ w its. elim (eqb_tells u w) [
                  | inl q ↦ subst (λ (n : ℕ). last_got_by n (without_subscriber u s.subscribers) ≡ None) q.1 (last-without u s.subscribers)
                  | inr q ↦ last-without_other w u s.subscribers q.0 ∙ others_of caller u last seat own there w its (λ p. q.1 (sym p))
                ]))
            | inr e ↦ let far : j < length m.readers = let is = st.readers in omega arith in
                subst (Seat owners (without_subscriber u s.subscribers) j) (sym (kept-set_other m.readers caller j None e.1 far))
                (seat_stays owners s.subscribers (without_subscriber u s.subscribers) j (reader_of j m.readers)
                (λ w its. last-without_other w u s.subscribers (ne_eqb u w (other_number owners caller j u w e.1 own its))) (st.seats j l))
          ];
          issued = omega arith;
          owned = st.owned;
        }

    -- ---- a new subscription

    abbrev given_to : ℕ → Owner
    given_to u = record { number = subscriber u; name = caller_name caller }

    abbrev new_one : ℕ → StateSubscriber ℕ
    new_one u = record { number = u; last = None }

    -- an older number's owner and last value stay
    older_owner : (u w i : ℕ) → w ≢ u → IsOwn i w (given_to u ∷ owners) → IsOwn i w owners
    older_owner u w i apart its = subst (λ (b : Bool). cond b (Some (caller_name caller)) (owner_of (subscriber w) owners) ≡ Some (caller_name i)) (ne_eqb u w (λ q. apart (sym q))) its

    seat_with : (u i : ℕ) (reader : Option (Option ℕ)) → caller ≢ i → u ≡ s.issued + 1 → UpTo s.issued owners → Seat owners s.subscribers i reader
        → Seat (given_to u ∷ owners) (s.subscribers ++ new_one u ∷ []) i reader
    seat_with u i None apart new owned seat = λ w its. elim (eqb_tells u w) [
      | inl e ↦ absurd (other_number (given_to u ∷ owners) caller i u w apart (newest_owner (given_to u) owners) its e.1)
      | inr e ↦ last-snoc_other w s.subscribers (new_one u) e.0 ∙ seat w (older_owner u w i (λ q. e.1 (sym q)) its)
    ]
    seat_with u i (Some last) apart new owned seat =
        let old = owned_up_to s.issued (subscriber seat.0) (caller_name i) owners owned seat.1 in
        let other : u ≢ seat.0 = λ q. absurd (omega arith) in (
          seat.0,
          owner_of_older (subscriber seat.0) (caller_name i) (given_to u) owners (omega arith) seat.1,
          last-snoc_other seat.0 s.subscribers (new_one u) (ne_eqb u seat.0 other) ∙ seat.2,
          λ w its far. elim (eqb_tells u w) [
            | inl e ↦ absurd (other_number (given_to u ∷ owners) caller i u w apart (newest_owner (given_to u) owners) its e.1)
            | inr e ↦ last-snoc_other w s.subscribers (new_one u) e.0 ∙ seat.3 w (older_owner u w i (λ q. e.1 (sym q)) its) far
          ],
        )

    pub subscribed : (u : ℕ) → IsSound s → u ≡ s.issued + 1 → reader_of caller m.readers ≡ None
        → StandsAs size (with_reader caller (Some None) m) (k + 1) (record s { subscribers = s.subscribers ++ new_one u ∷ []; issued = u }) (given_to u ∷ owners)
    subscribed u sound new is = let upto = st.issued in
        let before = st.count in
        let more = length-append s.subscribers (new_one u ∷ []) in
        let kept = present-set_more m.readers caller None (kept_at m.readers caller low ∙ ap Some is) in
        let above : s.issued < u = omega arith in record {
          value = st.value;
          readers = length-set m.readers caller (Some None) ∙ st.readers;
          count = omega arith;
          seats = λ j l. elim (eqb_tells caller j) [
            | inl e ↦ subst (λ (i : ℕ). Seat (given_to u ∷ owners) (s.subscribers ++ new_one u ∷ []) i (reader_of i (set m.readers caller (Some None)))) e.1
                (subst (Seat (given_to u ∷ owners) (s.subscribers ++ new_one u ∷ []) caller) (sym (kept-set_same m.readers caller (Some None) low)) (
                  u,
                  newest_owner (given_to u) owners,
                  last-snoc u s.subscribers (new_one u) (none_above s.issued u s.subscribers sound.numbers above) refl,
                  λ w its apart. last-snoc_other w s.subscribers (new_one u) (ne_eqb u w (λ q. apart (sym q)))
                      ∙ subst (Seat owners s.subscribers caller) is (st.seats caller near) w (older_owner u w caller apart its),
                ))
            | inr e ↦ let far : j < length m.readers = let is = st.readers in omega arith in
                subst (Seat (given_to u ∷ owners) (s.subscribers ++ new_one u ∷ []) j) (sym (kept-set_other m.readers caller j (Some None) e.1 far))
                (seat_with u j (reader_of j m.readers) e.1 new st.owned (st.seats j l))
          ];
          issued = omega arith;
          owned = (le_refl u, up_to_more s.issued u owners (omega arith) st.owned);
        }
