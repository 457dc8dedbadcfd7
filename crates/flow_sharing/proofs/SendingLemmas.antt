-- What the sending seat of a hub adds in a turn, by what a reset means for the calls of the turn. Begin with `sends-means`.
use Rattle.std.proofs.Common.{◌≡◌, ◌≢◌, ◌⊎◌, inl, inr, ℕ, Bool, true, false, List, [], ◌∷◌, Result, Ok, Err, subst, sym, refl, ap, ◌∙◌}
use Rattle.std.specs.List.{AllByRecursion}
use Rattle.flow_law.specs.declared.report.Report.{Report}
use Rattle.flow_law.specs.declared.report.ShareFault.{ShareFault}
use Rattle.flow_law.specs.history.Promise.{Grows}
use Rattle.flow_law.specs.sharing.SharingCalls.{HubCall, HubAnswer, counts, puts, polls, cancels, resets}
use Rattle.flow_law.specs.sharing.SharingTurn.{SharingState}
use Rattle.flow_law.specs.sharing.TurnMeaning.{IsNoReset, CallsLead, WasReset, ResetMeans}
use Rattle.flow_sharing.specs.SeatedHub.{SeatedHub}
use Rattle.flow_sharing.specs.OverThreads.{FollowsInTurn, InTurn, AddsFor, makes_reset, SendsInTurn}

-- ---- one call

module _ {Id T S E I : Type 0} (Says : I → HubCall T → E → Type 0) where
  -- the sending seat has added nothing
  abbrev pub Silent : SeatedHub Id S E I → SeatedHub Id S E I → Type 0
  Silent h k = k.sending.knows.seen ≡ h.sending.knows.seen

  -- it has added the event that the call is
  abbrev pub SendsOne : HubCall T → SeatedHub Id S E I → SeatedHub Id S E I → Type 0
  SendsOne c h k = (what : E) × Says h.initial c what × (at : ℕ) × Grows h.sending.knows.name h.sending.knows.seen at what k.sending.knows.seen

  -- what each call of a hub has to satisfy
  abbrev pub Sends : (c : HubCall T) → HubAnswer c → SeatedHub Id S E I → SeatedHub Id S E I → Type 0
  Sends counts a h k = Silent h k
  Sends (puts x) a h k = Silent h k ⊎ SendsOne (puts x) h k
  Sends polls a h k = Silent h k ⊎ SendsOne polls h k
  Sends cancels a h k = Silent h k ⊎ SendsOne cancels h k
  Sends resets (Ok done) h k = SendsOne resets h k
  Sends resets (Err fault) h k = Silent h k

  no-reset-sends : (c : HubCall T) (a : HubAnswer c) (h k : SeatedHub Id S E I) → IsNoReset c a → Sends c a h k → Silent h k ⊎ ((c ≢ resets) × SendsOne c h k)
  no-reset-sends counts a h k quiet same = inl same
  no-reset-sends (puts x) a h k quiet (inl same) = inl same
  no-reset-sends (puts x) a h k quiet (inr one) = inr ((λ e. cc), one)
  no-reset-sends polls a h k quiet (inl same) = inl same
  no-reset-sends polls a h k quiet (inr one) = inr ((λ e. cc), one)
  no-reset-sends cancels a h k quiet (inl same) = inl same
  no-reset-sends cancels a h k quiet (inr one) = inr ((λ e. cc), one)
  no-reset-sends resets (Ok done) h k quiet one = absurd quiet
  no-reset-sends resets (Err fault) h k quiet same = inl same

-- ---- the calls of a turn

module _ {Id T S E I : Type 0} (Says : I → HubCall T → E → Type 0) (step : (c : HubCall T) → SeatedHub Id S E I → HubAnswer c → SeatedHub Id S E I → Type 0)
    (sends : (c : HubCall T) (h k : SeatedHub Id S E I) (a : HubAnswer c) → step c h a k → Sends Says c a h k) (began : SeatedHub Id S E I) where
  abbrev Adds : List (HubCall T) → SeatedHub Id S E I → SeatedHub Id S E I → Type 0
  Adds calls h k = AddsFor (Says began.initial) began.sending.knows.name calls h.sending.knows.seen k.sending.knows.seen

  -- the hub before a call in which the seat adds nothing
  adds-silent : (calls : List (HubCall T)) (h m k : SeatedHub Id S E I) → Silent Says h m → Adds calls m k → Adds calls h k
  adds-silent calls h m k same adds = subst (λ l. AddsFor (Says began.initial) began.sending.knows.name calls l k.sending.knows.seen) same adds

  -- and before one in which it adds an event
  adds-one : (c : HubCall T) (calls : List (HubCall T)) (h m k : SeatedHub Id S E I) → FollowsInTurn began h → SendsOne Says c h m → Adds calls m k → Adds (c ∷ calls) h k
  adds-one c calls h m k follows (what, says, at, grows) adds = (
    what,
    subst (λ i. Says i c what) follows.1 says,
    (m.sending.knows.seen, at, subst (λ n. Grows n h.sending.knows.seen at what m.sending.knows.seen) follows.3.1 grows, adds),
  )

  abbrev AddsNoReset : SeatedHub Id S E I → SeatedHub Id S E I → Type 0
  AddsNoReset h k = (calls : List (HubCall T)) × AllByRecursion (λ (call : HubCall T). call ≢ resets) calls × Adds calls h k

  adds-led : (calls : List (HubCall T)) (h k : SeatedHub Id S E I) → CallsLead (InTurn step began) calls h k → AddsNoReset h k
  adds-led [] h k is = ([], tt, ap (λ (x : SeatedHub Id S E I). x.sending.knows.seen) is)
  adds-led (c ∷ calls) h k (a, quiet, (m, (told, follows), rest)) =
      let on = adds-led calls m k rest in
      elim (no-reset-sends Says c a h m quiet (sends c h m a told)) [
        | inl same ↦ (on.0, on.1, adds-silent on.0 h m k same on.2)
        | inr (other, one) ↦ (c ∷ on.0, (other, on.1), adds-one c on.0 h m k follows one on.2)
      ]

  sends-none : (new : SeatedHub Id S E I) → AddsNoReset began new → SendsInTurn (Says began.initial) false began.sending new.sending
  sends-none new (calls, quiet, adds) = record { first = []; later = calls; cancels_first = inl refl; no_reset = quiet; adds = adds }

  sends-reset : (new : SeatedHub Id S E I) → WasReset (InTurn step began) began new → SendsInTurn (Says began.initial) true began.sending new.sending
  sends-reset new was =
      let on = adds-led was.later was.reset new was.leads_on in
      let counted : Silent Says began was.counted = sends counts began was.counted (Ok was.counts_first.0) was.counts_first.1.0 in
      let made : Adds (resets ∷ on.0) was.cancelled new =
      adds-one resets on.0 was.cancelled was.reset new was.resets_then.1 (sends resets was.cancelled was.reset (Ok tt) was.resets_then.0) on.2 in
      elim (sends cancels was.counted was.cancelled (Ok was.cancels_next.0) was.cancels_next.1.0) [
        | inl same ↦ record {
          first = [];
          later = on.0;
          cancels_first = inl refl;
          no_reset = on.1;
          adds = adds-silent (resets ∷ on.0) began was.counted new counted (adds-silent (resets ∷ on.0) was.counted was.cancelled new same made);
        }
        | inr one ↦ record {
          first = cancels ∷ [];
          later = on.0;
          cancels_first = inr refl;
          no_reset = on.1;
          adds = adds-silent (cancels ∷ (resets ∷ on.0)) began was.counted new counted
              (adds-one cancels (resets ∷ on.0) was.counted was.cancelled new was.cancels_next.1.1 one made);
        }
      ]

  pub sends-means : (asked still : Bool) (answer : Result Report ShareFault) (t : SharingState T) (new : SeatedHub Id S E I) → t.reset_due ≡ still
      → ResetMeans (InTurn step began) asked began answer t new → SendsInTurn (Says began.initial) (makes_reset asked still) began.sending new.sending
  sends-means true false answer t new is (inl (none, was)) = sends-reset new was
  sends-means true false answer t new is (inr (due, may, not)) = let x : true ≡ false = sym due ∙ is in cc
  sends-means true true answer t new is (inl (none, was)) = let x : true ≡ false = sym is ∙ none in cc
  sends-means true true answer t new is (inr (due, may, not)) = sends-none new (adds-led not.0 began new not.1)
  sends-means false still answer t new is (none, not) = sends-none new (adds-led not.0 began new not.1)
