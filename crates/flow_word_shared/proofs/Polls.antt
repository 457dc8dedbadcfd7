-- Polls of a reader, one after the other: attempts in vain before a call of `next` belong to that call. Begin with `pends_polls`.
use Rattle.std.proofs.Common.{◌≡◌, ◌+◌, [], ◌∷◌, Option, Some, None, Ok, Err, refl, ◌∙◌}
use Rattle.futures.specs.Runs.{Within}
use Rattle.flow_law.specs.declared.fault.FlowFault.{FlowFault}
use Rattle.flow_law.specs.declared.outcome.Next.{Next}
use Rattle.flow_law.specs.declared.outcome.Next.TheVariants.{Value, Empty}
use Rattle.flow_law.specs.declared.states.SharedFlowState.{SharedFlowState}
use Rattle.flow_law.specs.history.Handles.{next_of}
use Rattle.flow_law.specs.flow.SharedHistory.{shared_flow}
use Rattle.flow_word.specs.Receiving.{WordNextGives, AsksInVain, not_asked, one_more, WordReceives, FindsNone, WordYields}
use Rattle.flow_word.proofs.Waits.{in_vain_far, receives_far}
use Rattle.flow_word_shared.specs.Answers.{HasTried, WordNextsNow}
use Rattle.flow_word_shared.specs.Receiving.{WordFlowPends, WordFlowPolls}
use Rattle.flow_word_shared.specs.Tokens.{WordFlowToken, WordFlowNumbered}
use Rattle.flow_word_shared.proofs.Chains.{sees_none, sees_sees}
use Rattle.flow_word_shared.proofs.Told.{tried_nexts}

module _ {T : Type 0} where
  untried : (a : WordFlowToken T) → HasTried a a
  untried a = (refl, (0, sees_none a.knows))

  tried_tried : (a b c : WordFlowToken T) → HasTried a b → HasTried b c → HasTried a c
  tried_tried a b c one two = (two.0 ∙ one.0, (one.1.0 + two.1.0, sees_sees one.1.0 two.1.0 a.knows b.knows c.knows one.1.1 two.1.1))

module _ {T : Type 0} (first : SharedFlowState T) where
  -- attempts in vain before calls of `next`
  vain_then : {a b c d : WordFlowNumbered T} (next : Next T) → HasTried a.token b.token → b.number ≡ a.number → AsksInVain shared_flow first b c → WordNextGives shared_flow first c next d
      → (e : WordFlowNumbered T) × AsksInVain shared_flow first a e × WordNextGives shared_flow first e next d
  vain_then {a} {b} {c} {d} next tried same not_asked given = (a, not_asked, tried_nexts first a b d (Ok next) tried same given)
  vain_then {a} {b} {c} {d} next tried same (one_more vain empty) given = let e = vain_then Empty tried same vain empty in (c, one_more e.1 e.2, given)

  tried_receives : {a b c : WordFlowNumbered T} {value : T} → HasTried a.token b.token → b.number ≡ a.number → WordReceives shared_flow first b value c → WordReceives shared_flow first a value c
  tried_receives {a} {b} {c} {value} tried same h = let e = vain_then (Value value) tried same h.in_vain h.given in record { between = e.0; in_vain = e.1; given = e.2 }

  tried_pends : {a b c d : WordFlowNumbered T} → HasTried a.token b.token → b.number ≡ a.number → AsksInVain shared_flow first b c → d.number ≡ c.number → HasTried c.token d.token → WordFlowPends first a d
  tried_pends {a} {b} {c} {d} tried same not_asked number more = record { between = a; in_vain = not_asked; number = number ∙ same; tried = tried_tried a.token b.token d.token tried more }
  tried_pends {a} {b} {c} {d} tried same (one_more vain empty) number more = let e = vain_then Empty tried same vain empty in record { between = c; in_vain = one_more e.1 e.2; number = number; tried = more }

  -- ---- a poll that found nothing, and then another one

  pub pends_receives : {a b c : WordFlowNumbered T} {value : T} → WordFlowPends first a b → WordReceives shared_flow first b value c → WordReceives shared_flow first a value c
  pends_receives p h = receives_far shared_flow first p.in_vain (tried_receives p.tried p.number h)

  pends_pends : {a b c : WordFlowNumbered T} → WordFlowPends first a b → WordFlowPends first b c → WordFlowPends first a c
  pends_pends p q = let r = tried_pends p.tried p.number q.in_vain q.number q.tried in record { between = r.between; in_vain = in_vain_far shared_flow first p.in_vain r.in_vain; number = r.number; tried = r.tried }

  pub pends_polls : (a b c : WordFlowNumbered T) (found : Option T) → WordFlowPends first a b → WordFlowPolls first b found c → WordFlowPolls first a found c
  pends_polls a b c (Some value) p h = pends_receives p h
  pends_polls a b c None p h = pends_pends p h

  -- ---- one attempt

  pub given_now : (a b : WordFlowNumbered T) (found : Option T) → WordNextsNow first a (Ok (next_of found)) b → WordFlowPolls first a found b
  given_now a b (Some value) h = record { between = a; in_vain = not_asked; given = (h.2.0, h.1) }
  given_now a b None h = record { between = b; in_vain = one_more not_asked (h.2.0, h.1); number = refl; tried = untried b.token }

  pub busy_now : (a b : WordFlowNumbered T) (fault : FlowFault) → WordNextsNow first a (Err fault) b → WordFlowPends first a b
  busy_now a b fault h = record { between = a; in_vain = not_asked; number = h.1; tried = (h.2.0, (1, h.2.1)) }

  pub none_now : (a b : WordFlowNumbered T) → WordNextsNow first a (Ok Empty) b → FindsNone shared_flow first a b
  none_now a b h = record { between = a; in_vain = not_asked; empty = (h.2.0, h.1) }

  -- ---- streams

  pub pends_yields : {s u : WordFlowNumbered T} → WordFlowPends first s u → Within (WordYields shared_flow first s) (WordYields shared_flow first u)
  pends_yields p [] (Some value) h = (h.0, pends_receives p h.1)
  pends_yields p [] None h = h
  pends_yields p (value ∷ values) next h = (h.0, pends_receives p h.1, h.2)
