-- If an order explains calls, a first part of it explains what was known of them at any cut. So there is one first moment at which
-- a record goes wrong. Begin with `goes_wrong`.
use Rattle.std.proofs.Common.{◌≡◌, ℕ, ◌≤◌, true, false, List, [], ◌∷◌, ◌++◌, length, map, cond, None, refl, sym, ap, ◌∙◌, subst, arith}
use Rattle.std.specs.Prelude.{filter, Vec}
use Rattle.std.specs.declared.alloc.Global.{Global}
use Rattle.std.proofs.lemmas.Bool.{lt-ltb, leb-true, le-leb}
use Rattle.std.proofs.lemmas.List.{length-map}
use Rattle.std.proofs.lemmas.Simd.{map-map}
use Rattle.flow_law.specs.declared.history.HistoryEvent.{HistoryEvent}
use Rattle.flow_law.specs.declared.history.Said.{Said}
use Rattle.flow_law.specs.history.History.{Kind}
use Rattle.flow_law.proofs.Rows.{split}
use Rattle.flow_check.specs.declared.timed.Timed.{Timed}
use Rattle.flow_check.specs.declared.moments.Cut.{Cut}
use Rattle.flow_check.specs.declared.moments.Cut.TheVariants.{Before, By}
use Rattle.flow_check.specs.declared.verdict.Verdict.{Verdict}
use Rattle.flow_check.specs.declared.verdict.Verdict.TheVariants.{Legal, Illegal, GaveUp}
use Rattle.flow_check.specs.Records.{CallsByCaller, is_over_before, IsWellTimed}
use Rattle.flow_check.specs.Verdicts.{Judges}
use Rattle.flow_check.specs.Orders.{turns_of, Explains}
use Rattle.flow_check.specs.Moments.{is_past, past_end, known_call, known_row, IsKnown, HasOrder, HasNoOrder, HasOrdersUntil, HasNoOrderFrom, GoesWrong, JudgesKnown, IsCutOff}
use Rattle.flow_check.proofs.Ordering.{Goes, goes_history, goes_explains, explains_goes}
use Rattle.flow_check.proofs.Ends.{not_over, pending_known}
use Rattle.flow_check.proofs.KnownRows.{began, known_row_again, known_at, known_from, well_known}

-- ---- one order

module _ {T S X R C : Type 0} (kind : Kind T S X R) (Adds : List (HistoryEvent (Said X R)) → ℕ → C → List (HistoryEvent (Said X R)) → Type 0) (first : S) (cut : Cut) (callers known : CallsByCaller C) (well : IsWellTimed callers) (is : IsKnown cut callers known) where
  -- the turns before the first call that began later
  known_goes : (order p : List ℕ) (h : List (HistoryEvent (Said X R))) → Goes kind Adds callers first p h order → (part : List ℕ) × Goes kind Adds known first p h part
  known_goes [] p h x = (
    [],
    (
      λ other d e. let c = known_from cut callers known well is other (turns_of other p) d e in
          subst (λ (t : Timed C). t.end ≡ None) (sym c.3) (ap (past_end cut) (x.0 other c.0 c.1)),
      x.1,
    ),
  )
  known_goes (caller ∷ order) p h x = split (is_past cut x.0.begin) (λ b. is_past cut x.0.begin ≡ b → (part : List ℕ) × Goes kind Adds known first p h part)
      (λ _ e. let more = known_goes order (p ++ caller ∷ []) (h ++ x.3.0) x.3.2 in (
        caller ∷ more.0,
        (
          known_call cut x.0,
          known_at cut callers known well is caller (turns_of caller p) x.0 x.1 e,
          (λ other d f. let c = known_from cut callers known well is other (turns_of other p) d f in
              subst (λ (t : Timed C). is_over_before t.end x.0.begin ≡ false) (sym c.3) (not_over cut c.0.end x.0.begin (x.2 other c.0 c.1))),
          (x.3.0, x.3.1, more.1),
        ),
      ))
      (λ _ e. (
        [],
        (
          (λ other d f. let c = known_from cut callers known well is other (turns_of other p) d f in
              subst (λ (t : Timed C). t.end ≡ None) (sym c.3) (pending_known cut c.0.end x.0.begin (x.2 other c.0 c.1) e)),
          goes_history kind Adds callers first (caller ∷ order) p h x,
        ),
      )) refl

  pub known_explains : (order : List ℕ) → Explains kind Adds callers first order → (part : List ℕ) × Explains kind Adds known first part
  known_explains order x =
      let made = known_goes order [] [] (explains_goes kind Adds callers first well order x) in
      (made.0, goes_explains kind Adds known first (well_known cut callers known well is) made.0 made.1)

-- ---- what was known at two cuts

module _ {C : Type 0} (cut : Cut) where
  fewer : (row : List (Timed C)) → length (filter (began cut) row) ≤ length row
  fewer [] = omega arith
  fewer (c ∷ row) = let more = fewer row in
      split (is_past cut c.begin) (λ b. length (cond b (c ∷ filter (began cut) row) (filter (began cut) row)) ≤ length (c ∷ row)) (λ _. omega arith) (λ _. omega arith)

  cut_fits : (row : Vec (Timed C) Global) → length (known_row cut row.items) ≤ row.cap
  cut_fits row = let size = length-map (filter (began cut) row.items) (known_call cut) in let few = fewer row.items in let long = row.ok.0 in let fits = row.ok.1 in omega arith

  abbrev cut_off : Vec (Timed C) Global → Vec (Timed C) Global
  cut_off row = record row { len = length (known_row cut row.items); items = known_row cut row.items; ok = (refl, cut_fits row) }

  abbrev all_cut_off : CallsByCaller C → CallsByCaller C
  all_cut_off callers = map cut_off callers

  cut_is_known : (callers : CallsByCaller C) → IsKnown cut callers (all_cut_off callers)
  cut_is_known callers = map-map (λ row. row.items) cut_off callers

  known_again : (early : Cut) → ((moment : ℕ) → is_past early moment ≡ true → is_past cut moment ≡ true) → (callers known : CallsByCaller C) → IsKnown cut callers known
      → map (λ row. known_row early row.items) known ≡ map (λ row. known_row early row.items) callers
  known_again early within callers known is =
      sym (map-map (known_row early) (λ row. row.items) known) ∙ ap (map (known_row early)) is ∙ map-map (known_row early) (λ row. known_row cut row.items) callers
      ∙ same_rows callers
    where
      same_rows : (callers : CallsByCaller C) → map (λ row. known_row early (known_row cut row.items)) callers ≡ map (λ row. known_row early row.items) callers
      same_rows [] = refl
      same_rows (row ∷ callers) =
          ap (λ (one : List (Timed C)). one ∷ map (λ other. known_row early (known_row cut other.items)) callers) (known_row_again early cut within row.items)
          ∙ ap (λ (more : List (List (Timed C))). known_row early row.items ∷ more) (same_rows callers)

-- ---- the first moment

module _ {C : Type 0} (explains : CallsByCaller C → List ℕ → Type 0) where
  orders_until : IsCutOff explains → (callers : CallsByCaller C) → IsWellTimed callers → (moment : ℕ) → HasOrder explains (Before moment) callers → HasOrdersUntil explains moment callers
  orders_until cuts callers well moment x earlier low =
      let known = x.0 in
      let then = all_cut_off (By earlier) known in (
        then,
        cut_is_known (By earlier) known ∙ known_again (Before moment) (By earlier) (λ at e. let upto = leb-true at earlier e in lt-ltb at moment (omega arith)) callers known x.1,
        cuts (By earlier) known then (well_known (Before moment) callers known well x.1) (cut_is_known (By earlier) known) x.2.0 x.2.1,
      )

  none_from : IsCutOff explains → (callers : CallsByCaller C) → IsWellTimed callers → (moment : ℕ) → HasNoOrder explains (By moment) callers → HasNoOrderFrom explains moment callers
  none_from cuts callers well moment x later low =
      let known = all_cut_off (By later) callers in
      let is = cut_is_known (By later) callers in (
        known,
        is,
        λ order e.
            let same = known_again (By later) (By moment) (λ at f. let upto = leb-true at moment f in le-leb at later (omega arith)) callers known is in
            let part = cuts (By moment) known x.0 (well_known (By later) callers known well is) (x.1 ∙ sym same) order e in
            x.2 part.0 part.1,
      )

  -- if some order explains what was known before a moment, and none what was known by it, the calls go wrong there
  pub goes_wrong : IsCutOff explains → (callers : CallsByCaller C) → IsWellTimed callers → (moment : ℕ) → HasOrder explains (Before moment) callers → HasNoOrder explains (By moment) callers → GoesWrong explains moment callers
  goes_wrong cuts callers well moment before by = record {
    legal_before = before;
    illegal_by = by;
    legal_until = orders_until cuts callers well moment before;
    illegal_from = none_from cuts callers well moment by;
  }

  -- a verdict on what was known
  pub known_judged : (cut : Cut) (callers known : CallsByCaller C) → IsKnown cut callers known → (verdict : Verdict) → Judges (explains known) verdict → JudgesKnown explains cut callers verdict
  known_judged cut callers known is (Legal order) x = (known, is, (order.items, x))
  known_judged cut callers known is Illegal x = (known, is, x)
  known_judged cut callers known is GaveUp x = tt
