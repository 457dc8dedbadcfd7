-- What a token of any kind of flow knows of its subscriber, as the history grows.
use Rattle.std.proofs.Common.{ℕ, List, [], ◌∷◌, ◌++◌, sym, subst}
use Rattle.flow_law.specs.declared.history.HistoryEvent.{HistoryEvent}
use Rattle.flow_law.specs.declared.history.Said.{Said}
use Rattle.flow_law.specs.history.Growth.{event, GrowsByOthers}
use Rattle.flow_law.specs.history.Promise.{said}
use Rattle.flow_law.specs.history.History.{Kind, Number, subscriber, after_all, IsLegal, IsHistory, IsGiven, IsSubscribed}
use Rattle.flow_law.specs.history.Lawful.{Lawful, Subscribing}
use Rattle.flow_law.proofs.HistoryLemmas.{after_all-snoc}
use Rattle.flow_law.proofs.Owners.{legal_left, legal_right, last_given, given_stays, kept_in_silence}

module _ {T S C R : Type 0} (kind : Kind T S C R) (law : Lawful kind) where
  abbrev Log : Type 0
  Log = List (HistoryEvent (Said C R))

  pub given_grows : (first : S) (name : List ℕ) (number : Number) (old new : Log) → IsHistory kind first new → GrowsByOthers name old new → IsGiven kind name number old → IsGiven kind name number new
  given_grows first name number old new is grown given =
      subst (IsGiven kind name number) (sym grown.1) (given_stays kind law first old grown.0 number name (subst (IsLegal kind first) grown.1 is.legal) given)

  -- a subscription stays the token's, whatever others add
  pub subscription_grows : (first : S) (name : List ℕ) (u : ℕ) (old new : Log) → IsHistory kind first new → GrowsByOthers name old new → IsGiven kind name (subscriber u) old → IsSubscribed kind u old
      → IsGiven kind name (subscriber u) new × IsSubscribed kind u new
  subscription_grows first name u old new is grown given there = subst (λ (h : Log). IsGiven kind name (subscriber u) h × IsSubscribed kind u h) (sym grown.1) (
    given_stays kind law first old grown.0 (subscriber u) name (subst (IsLegal kind first) grown.1 is.legal) given,
    λ other l.
        kept_in_silence kind law u other old grown.0 name l (subst (IsHistory kind first) grown.1 is).owned grown.2 given
        (there other (legal_left kind other old grown.0 l)),
  )

  -- the same after the token's own `next`
  pub subscription_next : (first : S) (name : List ℕ) (began u : ℕ) (h : Log) (r : R) → IsHistory kind first (h ++ event name began (said (kind.take_next u) r) ∷ [])
      → IsGiven kind name (subscriber u) h → IsSubscribed kind u h
      → IsGiven kind name (subscriber u) (h ++ event name began (said (kind.take_next u) r) ∷ []) × IsSubscribed kind u (h ++ event name began (said (kind.take_next u) r) ∷ [])
  subscription_next first name began u h r is given there =
      let last : HistoryEvent (Said C R) = event name began (said (kind.take_next u) r) in (
        given_stays kind law first h (last ∷ []) (subscriber u) name is.legal given,
        λ other l.
            subst (kind.HasSubscriber u) (sym (after_all-snoc kind other h last))
            (law.next_keeps u (after_all kind other h) r (there other (legal_left kind other h (last ∷ []) l))),
      )

  -- of a subscription, the name has the number, and the number is a subscriber's
  pub subscription_given : (subscribe : List ℕ → C) → Subscribing kind subscribe → (h : Log) (by name : List ℕ) (began u : ℕ)
      → IsGiven kind name (subscriber u) (h ++ event by began (said (subscribe name) (kind.subscribed u)) ∷ []) × IsSubscribed kind u (h ++ event by began (said (subscribe name) (kind.subscribed u)) ∷ [])
  subscription_given subscribe subscribing h by name began u =
      let last : HistoryEvent (Said C R) = event by began (said (subscribe name) (kind.subscribed u)) in (
        last_given kind h last (record { number = subscriber u; name = name }) (subscribing.gives by name u),
        λ other l.
            subst (kind.HasSubscriber u) (sym (after_all-snoc kind other h last))
            (subscribing.has (after_all kind other h) name u (legal_right kind other h (last ∷ []) l).0),
      )
