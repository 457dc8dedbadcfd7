-- Rows of flows that are made and played.
use Rattle.std.proofs.Common.{◌≡◌, ℕ, zero, suc, ◌<◌, ◌≤◌, true, false, map, List, [], ◌∷◌, ◌++◌, length, get_or, Option, Some, None, Ok, Err, refl, sym, ap, subst, ◌∙◌, append_assoc, arith}
use Rattle.std.proofs.lemmas.List.{map-append}
use Rattle.std.proofs.Math.ListN.{set}
use Rattle.script_format.specs.declared.script.Step.{Step}
use Rattle.script_format.specs.Actions.{action_of, actions_of}
use Rattle.script_format.specs.Heads.{Head, NamedHead}
use Rattle.flow_script.specs.declared.player.Player.{Player as KeptPlayer}
use Rattle.flow_script.specs.declared.row.PlayedFlow.{PlayedFlow as Kept}
use Rattle.flow_script.specs.declared.refusal.Refusal.{Refusal}
use Rattle.flow_script.specs.declared.answer.Answer.{Answer as Given}
use Rattle.flow_script.specs.declared.trace.Seen.{Seen}
use Rattle.flow_script.specs.declared.case.Case.{Case}
use Rattle.flow_script.specs.declared.case.Case.TheVariants.{Plain}
use Rattle.script_format.specs.declared.script.FlowStep.{FlowStep}
use Rattle.flow_script.specs.Answers.{Answer, as_answer, no_flow}
use Rattle.flow_script.specs.Cases.{cases_from, place_case, step_case, with_place}
use Rattle.flow_script.specs.Traces.{seen_case}
use Rattle.flow_script.specs.Refusals.{IsTold, refused_answer}
use Rattle.flow_script.specs.Players.{MakesPlayer, ShowsPlayer}
use Rattle.flow_script.specs.Rows.{AddsFlow, FollowsPlace, FollowsRow, ShowsFlow, ShowsPlace, ShowsRow}
use Rattle.flow_script.specs.ScriptMeaning.{Answers, NotMade, Play, Player, PlayedFlow, after_refusals, answers_from, first_played, flow_at, not_made_flow, only_steps, place_turn, player_of, turn, turn_at, with_flow}

-- ---- places of a row

shown-at : (kept : List (Option Kept)) (row : List (Option PlayedFlow)) (i : ℕ) (k : Option Kept) → ShowsRow kept row → i < length kept → k ≡ get_or kept i k → ShowsPlace k (flow_at i row)
shown-at [] row i k shows here is = absurd (omega arith)
shown-at (x ∷ xs) [] i k shows here is = absurd shows
shown-at (x ∷ xs) (y ∷ ys) zero k shows here is = subst (λ p. ShowsPlace p y) (sym is) shows.0
shown-at (x ∷ xs) (y ∷ ys) (suc i) k shows here is = shown-at xs ys i k shows.1 (omega arith) is

shown-set : (kept : List (Option Kept)) (row : List (Option PlayedFlow)) (i : ℕ) (k : Option Kept) (p : Option PlayedFlow) → ShowsRow kept row → ShowsPlace k p → ShowsRow (set kept i k) (set row i p)
shown-set [] [] i k p shows new = tt
shown-set [] (y ∷ ys) i k p shows new = absurd shows
shown-set (x ∷ xs) [] i k p shows new = absurd shows
shown-set (x ∷ xs) (y ∷ ys) zero k p shows new = (new, shows.1)
shown-set (x ∷ xs) (y ∷ ys) (suc i) k p shows new = (shows.0, shown-set xs ys i k p shows.1 new)

shown-push : (kept : List (Option Kept)) (row : List (Option PlayedFlow)) (k : Option Kept) (p : Option PlayedFlow) → ShowsRow kept row → ShowsPlace k p → ShowsRow (kept ++ k ∷ []) (row ++ p ∷ [])
shown-push [] [] k p shows new = (new, tt)
shown-push [] (y ∷ ys) k p shows new = absurd shows
shown-push (x ∷ xs) [] k p shows new = absurd shows
shown-push (x ∷ xs) (y ∷ ys) k p shows new = (shows.0, shown-push xs ys k p shows.1 new)

none-past : (kept : List (Option Kept)) (row : List (Option PlayedFlow)) (i : ℕ) → ShowsRow kept row → length kept ≤ i → flow_at i row ≡ None
none-past [] [] i shows past = refl
none-past [] (y ∷ ys) i shows past = absurd shows
none-past (x ∷ xs) [] i shows past = absurd shows
none-past (x ∷ xs) (y ∷ ys) zero shows past = absurd (omega arith)
none-past (x ∷ xs) (y ∷ ys) (suc i) shows past = none-past xs ys i shows.1 (omega arith)

set-past : (kept : List (Option Kept)) (row : List (Option PlayedFlow)) (i : ℕ) (p : Option PlayedFlow) → ShowsRow kept row → length kept ≤ i → set row i p ≡ row
set-past [] [] i p shows past = refl
set-past [] (y ∷ ys) i p shows past = absurd shows
set-past (x ∷ xs) [] i p shows past = absurd shows
set-past (x ∷ xs) (y ∷ ys) zero p shows past = absurd (omega arith)
set-past (x ∷ xs) (y ∷ ys) (suc i) p shows past = ap (λ l. y ∷ l) (set-past xs ys i p shows.1 (omega arith))

-- ---- steps

pub follows-at : (play : Play) (i : ℕ) (kept : List (Option Kept)) (k new : Option Kept) (answer : Given)
    → i < length kept → k ≡ get_or kept i k → FollowsPlace play k new answer → FollowsRow (turn_at i play) kept (set kept i new) answer
follows-at play i kept k new answer here is follows row shows =
    let done = follows (flow_at i row) (shown-at kept row i k shows here is) in
    (shown-set kept row i new (place_turn play (flow_at i row)).state shows done.0, done.1)

pub follows-past : (play : Play) (i : ℕ) (kept : List (Option Kept)) (answer : Given)
    → length kept ≤ i → as_answer answer ≡ no_flow → FollowsRow (turn_at i play) kept kept answer
follows-past play i kept answer past is row shows =
    let over = λ (p : Option PlayedFlow). ShowsRow kept (set row i (place_turn play p).state) × (as_answer answer ≡ (place_turn play p).result) in
    subst over (sym (none-past kept row i shows past)) (subst (λ r. ShowsRow kept r) (sym (set-past kept row i None shows past)) shows, is)

-- if the answers so far and those of the rest are all answers, so are they after one more step
pub next_answers : (row : List (Option PlayedFlow)) (step : Step) (before after : List Step) (old new : List Given) (answer : Given) (all : List Answer) → before ≡ step ∷ after → new ≡ old ++ answer ∷ []
    → as_answer answer ≡ (turn (action_of step) row).result → map as_answer old ++ answers_from row (actions_of before) ≡ all
    → map as_answer new ++ answers_from (turn (action_of step) row).state (actions_of after) ≡ all
next_answers row step before after old new answer all is pushed answered so_far =
    let t = turn (action_of step) row in
    let rest = answers_from t.state (actions_of after) in
    ap (λ l. map as_answer l ++ rest) pushed ∙ ap (λ l. l ++ rest) (map-append as_answer old (answer ∷ [])) ∙ append_assoc (map as_answer old) (as_answer answer ∷ []) rest
    ∙ ap (λ a. map as_answer old ++ (a ∷ rest)) answered ∙ ap (λ l. map as_answer old ++ answers_from row (actions_of l)) (sym is) ∙ so_far

-- if the cases so far and those of the rest are all cases, so are they after one more step
pub next_cases : (row : List (Option PlayedFlow)) (step : Step) (before after : List Step) (old new : List Seen) (seen : Seen) (all : List Case) → before ≡ step ∷ after → new ≡ old ++ seen ∷ []
    → seen.case ≡ step_case (action_of step) row → map seen_case old ++ cases_from row (actions_of before) ≡ all
    → map seen_case new ++ cases_from (turn (action_of step) row).state (actions_of after) ≡ all
next_cases row step before after old new seen all is pushed took so_far =
    let t = turn (action_of step) row in
    let rest = cases_from t.state (actions_of after) in
    ap (λ l. map seen_case l ++ rest) pushed ∙ ap (λ l. l ++ rest) (map-append seen_case old (seen ∷ [])) ∙ append_assoc (map seen_case old) (seen.case ∷ []) rest
    ∙ ap (λ a. map seen_case old ++ (a ∷ rest)) took ∙ ap (λ l. map seen_case old ++ cases_from row (actions_of l)) (sym is) ∙ so_far

-- the case of a step on what is at a place
pub case-at : (kept : List (Option Kept)) (row : List (Option PlayedFlow)) (i : ℕ) (k : Option Kept) (step : FlowStep) (case : Case) → ShowsRow kept row → i < length kept → k ≡ get_or kept i k
    → ((flow : Option PlayedFlow) → ShowsPlace k flow → case ≡ place_case step flow) → case ≡ place_case step (flow_at i row)
case-at kept row i k step case shows here is takes = takes (flow_at i row) (shown-at kept row i k shows here is)

pub case-past : (kept : List (Option Kept)) (row : List (Option PlayedFlow)) (i : ℕ) (step : FlowStep) → ShowsRow kept row → length kept ≤ i → Plain ≡ place_case step (flow_at i row)
case-past kept row i step shows past = ap (place_case step) (sym (none-past kept row i shows past))

-- ---- flows that are made

pub adds-made : (name : Option (List ℕ)) (head : Head) (kept new : List (Option Kept)) (player : KeptPlayer) (k : Kept) (before : List NotMade)
    → MakesPlayer head (Ok player) → ((p : Player) → ShowsPlayer player p → ShowsFlow k (first_played p)) → new ≡ kept ++ Some k ∷ []
    → AddsFlow (record { name = name; flow = head }) true kept new before before
adds-made name head kept new player k before made begins pushed row shows =
    let p = made.0 in (
      row ++ Some (first_played p) ∷ [],
      subst (λ l. ShowsRow l (row ++ Some (first_played p) ∷ [])) (sym pushed) (shown-push kept row (Some k) (Some (first_played p)) shows (begins p made.2)),
      ap (λ r. with_place name r row) made.1,
      λ rest. ap (λ r. after_refusals before (with_flow name r rest row)) made.1,
    )

-- refusals before further refusals
refusals-assoc : (before more : List NotMade) (rest : Answers) → after_refusals before (after_refusals more rest) ≡ after_refusals (before ++ more) rest
refusals-assoc before more rest = ap (λ l. record rest { not_made = l }) (sym (append_assoc before more rest.not_made))

pub adds-refused : (name : List ℕ) (head : NamedHead) (kept new : List (Option Kept)) (refused : Refusal) (before after : List NotMade)
    → head.name ≡ Some name → MakesPlayer head.flow (Err refused) → IsTold refused → after ≡ before ++ not_made_flow (Some name) (refused_answer refused) ∷ [] → new ≡ kept ++ None ∷ []
    → AddsFlow head true kept new before after
adds-refused name head kept new refused before after has_name makes told ends pushed row shows =
    let one = not_made_flow (Some name) (refused_answer refused) ∷ [] in (
      row ++ None ∷ [],
      subst (λ l. ShowsRow l (row ++ None ∷ [])) (sym pushed) (shown-push kept row None None shows tt),
      ap (λ n. with_place n (player_of head.flow) row) has_name ∙ ap (λ r. with_place (Some name) r row) (makes told),
      λ rest. ap (λ n. after_refusals before (with_flow n (player_of head.flow) rest row)) has_name
          ∙ ap (λ r. after_refusals before (with_flow (Some name) r rest row)) (makes told)
          ∙ refusals-assoc before one (rest (row ++ None ∷ [])) ∙ ap (λ l. after_refusals l (rest (row ++ None ∷ []))) (sym ends),
    )

pub ends-refused : (head : NamedHead) (kept : List (Option Kept)) (refused : Refusal) (before after : List NotMade)
    → head.name ≡ None → MakesPlayer head.flow (Err refused) → IsTold refused → after ≡ before ++ not_made_flow None (refused_answer refused) ∷ [] → AddsFlow head false kept kept before after
ends-refused head kept refused before after unnamed makes told ends row =
    let one = not_made_flow None (refused_answer refused) ∷ [] in (
      ap (λ n. with_place n (player_of head.flow) row) unnamed ∙ ap (λ r. with_place None r row) (makes told),
      λ rest. ap (λ n. after_refusals before (with_flow n (player_of head.flow) rest row)) unnamed ∙ ap (λ r. after_refusals before (with_flow None r rest row)) (makes told)
          ∙ refusals-assoc before one (only_steps []) ∙ ap (λ l. after_refusals l (only_steps [])) (sym ends),
    )
