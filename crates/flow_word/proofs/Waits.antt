-- Calls of `next` that found nothing, before one that found something.
use Rattle.std.proofs.Common.{◌≡◌, subst, [], ◌∷◌, Option, Some, None, Ok}
use Rattle.futures.specs.Runs.{After, Within}
use Rattle.flow_law.specs.declared.history.Said.{Said}
use Rattle.flow_law.specs.history.History.{Kind}
use Rattle.flow_law.specs.history.Handles.{next_of}
use Rattle.flow_law.specs.history.Tokens.{NumberedToken, NextsIn}
use Rattle.flow_word.specs.Receiving.{AsksInVain, not_asked, one_more, WordReceives, FindsNone, ReceivesInTime, WordYields}

abbrev Numbered : (Id C R : Type 0) → Type 0
Numbered Id C R = NumberedToken Id (Said C R)

module _ {Id T S C R : Type 0} (kind : Kind T S C R) (first : S) where
  pub in_vain_far : {s t u : Numbered Id C R} → AsksInVain kind first s t → AsksInVain kind first t u → AsksInVain kind first s u
  in_vain_far one not_asked = one
  in_vain_far one (one_more two more) = one_more (in_vain_far one two) more

  -- one look
  pub found_now : (s t : Numbered Id C R) (found : Option T) → NextsIn kind first s (Ok (next_of found)) t → t.number ≡ s.number → ReceivesInTime kind first s found t
  found_now s t (Some value) called same = record { between = s; in_vain = not_asked; given = (called, same) }
  found_now s t None called same = record { between = s; in_vain = not_asked; empty = (called, same) }

  pub in_vain_all : {s t u : Numbered Id C R} → AsksInVain kind first s t → FindsNone kind first t u → AsksInVain kind first s u
  in_vain_all one none = one_more (in_vain_far one none.in_vain) none.empty

  pub receives_far : {s t u : Numbered Id C R} {value : T} → AsksInVain kind first s t → WordReceives kind first t value u → WordReceives kind first s value u
  receives_far one h = record { between = h.between; in_vain = in_vain_far one h.in_vain; given = h.given }

  pub found_far : (s t u : Numbered Id C R) (found : Option T) → AsksInVain kind first s t → ReceivesInTime kind first t found u → ReceivesInTime kind first s found u
  found_far s t u (Some value) one h = receives_far one h
  found_far s t u None one h = record { between = h.between; in_vain = in_vain_far one h.in_vain; empty = h.empty }

  -- ---- a look at the same flow, whose first state is known by an equation

  pub in_vain_again : {now : S} {s t u : Numbered Id C R} → now ≡ first → AsksInVain kind first s t → FindsNone kind now t u → AsksInVain kind first s u
  in_vain_again {now} {s} {t} {u} is one none = in_vain_all one (subst (λ f. FindsNone kind f t u) is none)

  pub receives_then : {now : S} {s t u : Numbered Id C R} {value : T} → now ≡ first → AsksInVain kind first s t → WordReceives kind now t value u → WordReceives kind first s value u
  receives_then {now} {s} {t} {u} {value} is one h = receives_far one (subst (λ f. WordReceives kind f t value u) is h)

  pub found_then : {now : S} (s t u : Numbered Id C R) (found : Option T) → now ≡ first → AsksInVain kind first s t → ReceivesInTime kind now t found u → ReceivesInTime kind first s found u
  found_then s t u found is one h = found_far s t u found one (subst (λ f. ReceivesInTime kind f t found u) is h)

  -- ---- streams

  pub yields_rest : {s u : Numbered Id C R} {value : T} → WordReceives kind first s value u → After (WordYields kind first s) value (WordYields kind first u)
  yields_rest {s} {u} given values next rest = (u, given, rest)

  pub yields_far : {s u : Numbered Id C R} → AsksInVain kind first s u → Within (WordYields kind first s) (WordYields kind first u)
  yields_far one [] (Some value) h = (h.0, receives_far one h.1)
  yields_far one [] None h = h
  yields_far one (value ∷ values) next h = (h.0, receives_far one h.1, h.2)
