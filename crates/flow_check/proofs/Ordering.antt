-- An order read turn by turn, and the same facts for each two of its turns. Begin with `Goes`.
use Rattle.std.proofs.Common.{◌≡◌, ℕ, suc, zero, ◌<◌, ◌≤◌, false, List, [], ◌∷◌, ◌++◌, length, take, Option, Some, None, refl, sym, ap, ◌∙◌, subst, inl, inr, arith}
use Rattle.std.specs.Prelude.{slice_get, IsSome, is_some}
use Rattle.std.proofs.lemmas.Bool.{false≢true}
use Rattle.std.proofs.lemmas.List.{append_assoc, append-nil}
use Rattle.std.proofs.lemmas.Option.{slice_get_within, same_Some}
use Rattle.std.proofs.lemmas.Bool.Decides.{leb_tells}
use Rattle.flow_law.specs.declared.history.HistoryEvent.{HistoryEvent}
use Rattle.flow_law.specs.declared.history.Said.{Said}
use Rattle.flow_law.specs.history.History.{Kind, IsHistory}
use Rattle.flow_law.proofs.Owners.{history_left}
use Rattle.flow_law.proofs.Rows.{split}
use Rattle.flow_check.specs.declared.timed.Timed.{Timed}
use Rattle.flow_check.specs.Records.{CallsByCaller, recorded, is_over_before, IsWellTimed}
use Rattle.flow_check.specs.Orders.{turns_of, all_events, Explains}
use Rattle.flow_check.proofs.Turns.{turns-take, turn_counts, find_turn}
use Rattle.flow_check.proofs.Timing.{earlier}

module _ {T S X R C : Type 0} (kind : Kind T S X R) (Adds : List (HistoryEvent (Said X R)) → ℕ → C → List (HistoryEvent (Said X R)) → Type 0) (callers : CallsByCaller C) (first : S) where
  abbrev Log : Type 0
  Log = List (HistoryEvent (Said X R))

  -- after the turns p the caller's next call is c
  abbrev pub IsNext : List ℕ → ℕ → Timed C → Type 0
  IsNext p caller c = recorded callers caller (turns_of caller p) ≡ Some c

  -- no caller's next call was over before this moment
  abbrev pub NoneLate : List ℕ → ℕ → Type 0
  NoneLate p moment = (other : ℕ) (d : Timed C) → IsNext p other d → is_over_before d.end moment ≡ false

  -- every caller's next call is pending
  abbrev pub NoneOwed : List ℕ → Type 0
  NoneOwed p = (other : ℕ) (d : Timed C) → IsNext p other d → d.end ≡ None

  -- after the turns p, which made the history h, the order continues, and explains a history that begins with h
  abbrev pub Goes : List ℕ → Log → List ℕ → Type 0
  Goes p h [] = NoneOwed p × IsHistory kind first h
  Goes p h (caller ∷ order) =
      (c : Timed C) × IsNext p caller c × NoneLate p c.begin
      × ((part : Log) × Adds h caller c.call part × Goes (p ++ caller ∷ []) (h ++ part) order)

  -- the history that the order continues is legal
  pub goes_history : (order p : List ℕ) (h : Log) → Goes p h order → IsHistory kind first h
  goes_history [] p h x = x.1
  goes_history (caller ∷ order) p h x = history_left kind first h x.3.0 (goes_history order (p ++ caller ∷ []) (h ++ x.3.0) x.3.2)

  -- what is said of one turn, which adds this part
  abbrev IsTurn : List ℕ → Log → ℕ → Option Log → Type 0
  IsTurn p h caller adds =
      (c : Timed C) × IsNext p caller c × NoneLate p c.begin × ((part : Log) × (adds ≡ Some part) × Adds h caller c.call part)

  -- the same of each turn by its place
  record Turned (p : List ℕ) (h : Log) (order : List ℕ) (parts : List Log) : Type 0 where
    one_each : length parts ≡ length order
    turns : (n caller : ℕ) → slice_get order n ≡ Some caller → IsTurn (p ++ take n order) (h ++ all_events (take n parts)) caller (slice_get parts n)
    owed : NoneOwed (p ++ order)
    history : IsHistory kind first (h ++ all_events parts)

  -- ---- one after another, and by place

  turn_along : (p q : List ℕ) (h k : Log) (caller : ℕ) (adds : Option Log) → p ≡ q → h ≡ k → IsTurn p h caller adds → IsTurn q k caller adds
  turn_along p q h k caller adds e f turn =
      subst (λ (x : List ℕ). IsTurn x k caller adds) e (subst (λ (x : Log). IsTurn p x caller adds) f turn)

  goes_turned : (order p : List ℕ) (h : Log) → Goes p h order → (parts : List Log) × Turned p h order parts
  goes_turned [] p h x = (
    [],
    record {
      one_each = refl;
      turns = λ n caller e. let past = slice_get_within [] n caller e in absurd (omega arith);
      owed = subst NoneOwed (sym (append-nil p)) x.0;
      history = subst (IsHistory kind first) (sym (append-nil h)) x.1;
    },
  )
  goes_turned (caller ∷ order) p h x =
      let part = x.3.0 in
      let more = goes_turned order (p ++ caller ∷ []) (h ++ part) x.3.2 in (
        part ∷ more.0,
        record {
          one_each = ap suc more.1.one_each;
          turns = turns part more.0 more.1 (x.0, x.1, x.2, (part, refl, x.3.1));
          owed = subst NoneOwed (append_assoc p (caller ∷ []) order) more.1.owed;
          history = subst (IsHistory kind first) (append_assoc h part (all_events more.0)) more.1.history;
        },
      )
    where
      turns : (part : Log) (parts : List Log) → Turned (p ++ caller ∷ []) (h ++ part) order parts → IsTurn p h caller (Some part)
          → (n other : ℕ) → slice_get (caller ∷ order) n ≡ Some other → IsTurn (p ++ take n (caller ∷ order)) (h ++ all_events (take n (part ∷ parts))) other (slice_get (part ∷ parts) n)
      turns part parts more one zero other e =
          subst (λ (i : ℕ). IsTurn (p ++ []) (h ++ []) i (Some part)) (same_Some caller other e)
          (turn_along p (p ++ []) h (h ++ []) caller (Some part) (sym (append-nil p)) (sym (append-nil h)) one)
      turns part parts more one (suc n) other e =
          turn_along ((p ++ caller ∷ []) ++ take n order) (p ++ caller ∷ take n order) ((h ++ part) ++ all_events (take n parts)) (h ++ (part ++ all_events (take n parts))) other (slice_get parts n)
          (append_assoc p (caller ∷ []) (take n order)) (append_assoc h part (all_events (take n parts))) (more.turns n other e)

  turned_goes : (order p : List ℕ) (h : Log) (parts : List Log) → Turned p h order parts → Goes p h order
  turned_goes [] p h [] x = (subst NoneOwed (append-nil p) x.owed, subst (IsHistory kind first) (append-nil h) x.history)
  turned_goes [] p h (part ∷ parts) x = let count = x.one_each in absurd (omega arith)
  turned_goes (caller ∷ order) p h [] x = let count = x.one_each in absurd (omega arith)
  turned_goes (caller ∷ order) p h (part ∷ parts) x =
      let one = turn_along (p ++ []) p (h ++ []) h caller (Some part) (append-nil p) (append-nil h) (x.turns 0 caller refl) in (
        one.0,
        one.1,
        one.2,
        (
          part,
          subst (λ (y : Log). Adds h caller one.0.call y) (sym (same_Some part one.3.0 one.3.1)) one.3.2,
          turned_goes order (p ++ caller ∷ []) (h ++ part) parts (record {
            one_each = let count = x.one_each in omega arith;
            turns = λ n other e. turn_along (p ++ caller ∷ take n order) ((p ++ caller ∷ []) ++ take n order) (h ++ (part ++ all_events (take n parts))) ((h ++ part) ++ all_events (take n parts)) other (slice_get parts n)
                (sym (append_assoc p (caller ∷ []) (take n order))) (sym (append_assoc h part (all_events (take n parts)))) (x.turns (suc n) other e);
            owed = subst NoneOwed (sym (append_assoc p (caller ∷ []) order)) x.owed;
            history = subst (IsHistory kind first) (sym (append_assoc h part (all_events parts))) x.history;
          }),
        ),
      )

  -- ---- by place, and of each two

  module _ (well : IsWellTimed callers) where
    -- a caller's next call is over no later than its later ones
    none_late : (p : List ℕ) (moment other n : ℕ) (d : Timed C) → NoneLate p moment → turns_of other p ≤ n → recorded callers other n ≡ Some d → is_over_before d.end moment ≡ false
    none_late p moment other n d none low h =
        let next = earlier callers well other (turns_of other p) n d low h in
        split (is_over_before d.end moment) (λ b. is_over_before d.end moment ≡ b → b ≡ false)
        (λ _ e. absurd (false≢true (sym (none other next.0 next.1) ∙ next.2.0 moment e))) (λ _ _. refl) refl

    turned_explains : (order : List ℕ) (parts : List Log) → Turned [] [] order parts → Explains kind Adds callers first order
    turned_explains order parts x = record {
      parts = parts;
      one_each = x.one_each;
      turns = λ n caller e. let turn = x.turns n caller e in (turn.0, (e, turn.1), turn.3);
      in_time = λ m n one other c d low at_m at_n.
          let turn = x.turns m one at_m.0 in
          let same = same_Some turn.0 c (sym turn.1 ∙ at_m.1) in
          let none = subst (λ (y : Timed C). NoneLate (take m order) y.begin) same turn.2 in
          let upto : m ≤ n = omega arith in
          none_late (take m order) c.begin other (turns_of other (take n order)) d none (turns-take other m n order upto) at_n.1;
      complete = λ caller k c h ended. elim (leb_tells (turns_of caller order) k) [
        | inl e ↦
            let next = earlier callers well caller (turns_of caller order) k c e.1 h in
            let pending = next.2.1 (x.owed caller next.0 next.1) in
            absurd (false≢true (sym (ap is_some pending) ∙ ended))
        | inr e ↦ e.1
      ];
      history = x.history;
    }

    explains_turned : (order : List ℕ) (x : Explains kind Adds callers first order) → Turned [] [] order x.parts
    explains_turned order x = record {
      one_each = x.one_each;
      turns = λ n caller e. let turn = x.turns n caller e in (turn.0, turn.1.1, late n caller turn.0 e turn.1.1, turn.2);
      owed = λ other d h. ended (d.end) (λ some. let few = x.complete other (turns_of other order) d h some in absurd (omega arith));
      history = x.history;
    }
      where
        ended : (end : Option ℕ) → (IsSome end → end ≡ None) → end ≡ None
        ended None f = refl
        ended (Some e) f = f refl

        -- a next call that ended happens later, or is the call of this turn
        over : (n caller other : ℕ) (c d : Timed C) → slice_get order n ≡ Some caller → IsNext (take n order) caller c → IsNext (take n order) other d → IsSome d.end → is_over_before d.end c.begin ≡ false
        over n caller other c d e next h some =
            let found = find_turn other (turns_of other (take n order)) order (x.complete other (turns_of other (take n order)) d h some) in
            elim (leb_tells (suc n) found.0) [
              | inl after ↦ let low : n < found.0 = after.1 in
                  x.in_time n found.0 caller other c d low (e, next) (found.1, subst (λ (k : ℕ). recorded callers other k ≡ Some d) (sym found.2) h)
              | inr upto ↦ elim (leb_tells n found.0) [
                | inl same ↦
                    let is : found.0 ≡ n = let a = upto.1 in let b = same.1 in omega arith in
                    let turn = same_Some caller other (sym e ∙ subst (λ (k : ℕ). slice_get order k ≡ Some other) is found.1) in
                    let call = same_Some c d (sym next ∙ subst (λ (i : ℕ). recorded callers i (turns_of i (take n order)) ≡ Some d) (sym turn) h) in
                    subst (λ (y : Timed C). is_over_before y.end c.begin ≡ false) call (well caller (turns_of caller (take n order)) c next).0
                | inr before ↦
                    let counted = turn_counts other found.0 n order found.1 before.1 in
                    let is = found.2 in
                    absurd (omega arith)
              ]
            ]

        late : (n caller : ℕ) (c : Timed C) → slice_get order n ≡ Some caller → IsNext (take n order) caller c → NoneLate (take n order) c.begin
        late n caller c e next other d h = pending_or d.end (λ some. over n caller other c d e next h some)
          where
            pending_or : (end : Option ℕ) → (IsSome end → is_over_before end c.begin ≡ false) → is_over_before end c.begin ≡ false
            pending_or None f = refl
            pending_or (Some k) f = f refl

    pub goes_explains : (order : List ℕ) → Goes [] [] order → Explains kind Adds callers first order
    goes_explains order x = let turned = goes_turned order [] [] x in turned_explains order turned.0 turned.1

    pub explains_goes : (order : List ℕ) → Explains kind Adds callers first order → Goes [] [] order
    explains_goes order x = turned_goes order [] [] x.parts (explains_turned order x)
