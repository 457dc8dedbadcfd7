-- What a new subscription and a new emission do to what a checker of shared flows keeps of each caller.
use Rattle.std.proofs.Common.{◌≡◌, ◌≢◌, ℕ, suc, ◌+◌, ◌<◌, ◌≤◌, Bool, true, not, ◌==◌, cond, List, [], ◌∷◌, ◌++◌, length, set, Option, Some, None, refl, sym, ap, ◌∙◌, subst, inl, inr, arith, ne_eqb, length-set}
use Rattle.std.specs.Prelude.{IsSome, is_some}
use Rattle.std.proofs.lemmas.Bool.{false≢true, cond-false}
use Rattle.std.proofs.lemmas.Bool.Decides.{eqb_tells}
use Rattle.std.proofs.lemmas.List.{length_push}
use Rattle.flow_law.specs.history.History.{subscriber, emission, Owner, owner_of}
use Rattle.flow_law.specs.laws.Laws.{RisesTo}
use Rattle.flow_law.specs.declared.states.Subscriber.{Subscriber}
use Rattle.flow_law.specs.flow.SharedFlow.{position_of, without}
use Rattle.flow_law.proofs.Owners.{UpTo, owned_up_to, owner_of_older, newest_owner}
use Rattle.flow_law.proofs.Rows.{split, rises_below, position-snoc, position-snoc_other, own-snoc, own-snoc_other}
use Rattle.flow_law.proofs.RowOrder.{numbers_of}
use Rattle.flow_check.specs.StateRecords.{caller_name}
use Rattle.flow_check.specs.Subscribed.{kept_of}
use Rattle.flow_check.specs.SharedMachine.{own_left}
use Rattle.flow_check.proofs.KeptLemmas.{kept_at, kept-set_same, kept-set_other, present-set_more}
use Rattle.flow_check.proofs.LagLemmas.{own-set_same, own-set_other}
use Rattle.flow_check.proofs.StateSeats.{IsOwn, other_number}
use Rattle.flow_check.proofs.SharedSeats.{Subscribers, Seat, SeatsAs}

-- a number above all is no subscriber's
pub above : (n b top : ℕ) (us : Subscribers) → RisesTo b (numbers_of us) top → top < n → position_of n us ≡ None
above n b top [] h l = refl
above n b top (u ∷ us) h l =
    let upto = rises_below u.number top (numbers_of us) h.1 in
    cond-false (u.number == n) (Some u.position) (position_of n us) (ne_eqb u.number n (λ z. absurd (omega arith))) ∙ above n u.number top us h.1 l

kept_all : (n b top : ℕ) (us : Subscribers) → RisesTo b (numbers_of us) top → n ≤ b → length (without n us) ≡ length us
kept_all n b top [] h l = refl
kept_all n b top (u ∷ us) h l =
    let high = h.0 in
    let rest = kept_all n u.number top us h.1 (omega arith) in
    subst (λ (t : Bool). length (cond (not t) (u ∷ without n us) (without n us)) ≡ suc (length us)) (sym (ne_eqb u.number n (λ z. absurd (omega arith)))) (ap suc rest)

pub one_fewer : (n b top : ℕ) (us : Subscribers) → RisesTo b (numbers_of us) top → IsSome (position_of n us) → length (without n us) + 1 ≡ length us
one_fewer n b top [] h there = absurd (false≢true there)
one_fewer n b top (u ∷ us) h there = split (u.number == n) (λ t. (u.number == n) ≡ t → IsSome (cond t (Some u.position) (position_of n us)) → length (cond (not t) (u ∷ without n us) (without n us)) + 1 ≡ suc (length us))
    (λ _ e _. let is = same e in let all = kept_all n u.number top us h.1 (omega arith) in omega arith)
    (λ _ _ some. let rest = one_fewer n u.number top us h.1 some in omega arith) refl there
  where
    same : (u.number == n) ≡ true → u.number ≡ n
    same e = elim (eqb_tells u.number n) [ inl q ↦ q.1 | inr q ↦ absurd (false≢true (sym q.0 ∙ e)) ]

-- the owner of the next number, and the subscriber of that number
abbrev pub given_to : ℕ → ℕ → Owner
given_to caller issued = record { number = subscriber (issued + 1); name = caller_name caller }

abbrev pub new_one : ℕ → ℕ → List ℕ → Subscriber ℕ
new_one issued p own = record { number = issued + 1; own = own; position = p }

module _ (size : ℕ) (lags : List (Option ℕ)) (owns : List (List ℕ)) (us : Subscribers) (len : ℕ) (owners : List Owner) (st : SeatsAs size lags owns us len owners) (caller : ℕ) (near : caller < size) (issued : ℕ) (owned : UpTo issued owners) where
  older_owner : (w i : ℕ) → w ≢ issued + 1 → IsOwn i w ((given_to caller issued) ∷ owners) → IsOwn i w owners
  older_owner w i apart its = subst (λ (b : Bool). cond b (Some (caller_name caller)) (owner_of (subscriber w) owners) ≡ Some (caller_name i)) (ne_eqb (issued + 1) w (λ q. apart (sym q))) its

  seat_with : (i p : ℕ) (own : List ℕ) (o : Option ℕ) (kept : List ℕ) → caller ≢ i → Seat owners us len i o kept → Seat ((given_to caller issued) ∷ owners) (us ++ new_one issued p own ∷ []) len i o kept
  seat_with i p own None kept apart seat = λ w its. elim (eqb_tells (issued + 1) w) [
    | inl e ↦ absurd (other_number ((given_to caller issued) ∷ owners) caller i (issued + 1) w apart (newest_owner (given_to caller issued) owners) its e.1)
    | inr e ↦ position-snoc_other w us (new_one issued p own) e.0 ∙ seat w (older_owner w i (λ q. e.1 (sym q)) its)
  ]
  seat_with i p own (Some lag) kept apart seat =
      let old = owned_up_to issued (subscriber seat.number) (caller_name i) owners owned seat.is_own in
      let other : issued + 1 ≢ seat.number = λ q. absurd (omega arith) in record {
        number = seat.number;
        is_own = owner_of_older (subscriber seat.number) (caller_name i) (given_to caller issued) owners (omega arith) seat.is_own;
        position = seat.position;
        stands = position-snoc_other seat.number us (new_one issued p own) (ne_eqb (issued + 1) seat.number other) ∙ seat.stands;
        reach = seat.reach;
        left = own-snoc_other seat.number us (new_one issued p own) (ne_eqb (issued + 1) seat.number other) ∙ seat.left;
        alone = λ w its far. elim (eqb_tells (issued + 1) w) [
          | inl e ↦ absurd (other_number ((given_to caller issued) ∷ owners) caller i (issued + 1) w apart (newest_owner (given_to caller issued) owners) its e.1)
          | inr e ↦ position-snoc_other w us (new_one issued p own) e.0 ∙ seat.alone w (older_owner w i (λ q. e.1 (sym q)) its) far
        ];
      }

  -- the caller, which had no subscription, has one with this lag
  pub seats_more : (p lag : ℕ) (own : List ℕ) → kept_of caller lags ≡ None → position_of (issued + 1) us ≡ None → p + lag ≡ len
      → SeatsAs size (set lags caller (Some lag)) (set owns caller own) (us ++ new_one issued p own ∷ []) len ((given_to caller issued) ∷ owners)
  seats_more p lag own is fresh reach =
      let none = subst (λ (o : Option ℕ). Seat owners us len caller o (own_left caller owns)) is (st.seats caller near) in
      let low_lags : caller < length lags = let each = st.lags_each in omega arith in
      let low_owns : caller < length owns = let each = st.owns_each in omega arith in record {
        lags_each = length-set lags caller (Some lag) ∙ st.lags_each;
        owns_each = length-set owns caller own ∙ st.owns_each;
        count = let before = st.count in let more = length_push us (new_one issued p own) in
            let kept = present-set_more lags caller lag (kept_at lags caller low_lags ∙ ap Some is) in omega arith;
        seats = λ j l. elim (eqb_tells caller j) [
          | inl e ↦ subst (λ (i : ℕ). Seat ((given_to caller issued) ∷ owners) (us ++ new_one issued p own ∷ []) len i (kept_of i (set lags caller (Some lag))) (own_left i (set owns caller own))) e.1
              (subst (λ (o : Option ℕ). Seat ((given_to caller issued) ∷ owners) (us ++ new_one issued p own ∷ []) len caller o (own_left caller (set owns caller own))) (sym (kept-set_same lags caller (Some lag) low_lags)) (record {
                number = issued + 1;
                is_own = newest_owner (given_to caller issued) owners;
                position = p;
                stands = position-snoc (issued + 1) us (new_one issued p own) fresh refl;
                reach = reach;
                left = own-snoc (issued + 1) us (new_one issued p own) fresh refl ∙ sym (own-set_same owns caller own low_owns);
                alone = λ w its far. position-snoc_other w us (new_one issued p own) (ne_eqb (issued + 1) w (λ q. far (sym q))) ∙ none w (older_owner w caller far its);
              }))
          | inr e ↦
              let far_lags : j < length lags = let each = st.lags_each in omega arith in
              let far_owns : j < length owns = let each = st.owns_each in omega arith in
              subst (λ (o : Option ℕ). Seat ((given_to caller issued) ∷ owners) (us ++ new_one issued p own ∷ []) len j o (own_left j (set owns caller own))) (sym (kept-set_other lags caller j (Some lag) e.1 far_lags))
              (subst (λ (kept : List ℕ). Seat ((given_to caller issued) ∷ owners) (us ++ new_one issued p own ∷ []) len j (kept_of j lags) kept) (sym (own-set_other owns caller j own e.1 far_owns))
              (seat_with j p own (kept_of j lags) (own_left j owns) e.1 (st.seats j l)))
        ];
        belongs = λ u there. elim (eqb_tells (issued + 1) u) [
          | inl q ↦ (caller, near, subst (λ (n : ℕ). IsOwn caller n ((given_to caller issued) ∷ owners)) q.1 (newest_owner (given_to caller issued) owners))
          | inr q ↦
              let its = st.belongs u (sym (ap is_some (position-snoc_other u us (new_one issued p own) q.0)) ∙ there) in
              let old = owned_up_to issued (subscriber u) (caller_name its.0) owners owned its.2 in
              (its.0, its.1, owner_of_older (subscriber u) (caller_name its.0) (given_to caller issued) owners (omega arith) its.2)
        ];
      }

-- ---- a new emission

-- a number that is given to an emitter is no subscriber's
pub seats_emitter : (size : ℕ) (lags : List (Option ℕ)) (owns : List (List ℕ)) (us : Subscribers) (len e : ℕ) (name : List ℕ) (owners : List Owner) → SeatsAs size lags owns us len owners
    → SeatsAs size lags owns us len (record { number = emission e; name = name } ∷ owners)
seats_emitter size lags owns us len e name owners st = record {
  lags_each = st.lags_each;
  owns_each = st.owns_each;
  count = st.count;
  seats = λ caller near. by caller (kept_of caller lags) (own_left caller owns) (st.seats caller near);
  belongs = λ u there. st.belongs u there;
}
  where
    by : (caller : ℕ) (o : Option ℕ) (own : List ℕ) → Seat owners us len caller o own → Seat (record { number = emission e; name = name } ∷ owners) us len caller o own
    by caller None own seat = λ u its. seat u its
    by caller (Some lag) own seat = record {
      number = seat.number;
      is_own = seat.is_own;
      position = seat.position;
      stands = seat.stands;
      reach = seat.reach;
      left = seat.left;
      alone = λ u its apart. seat.alone u its apart;
    }
