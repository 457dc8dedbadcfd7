-- A history of any kind of flow in two parts: what holds of each part, and which token owns a number after it.
use Rattle.std.proofs.Common.{◌≡◌, ◌≢◌, ℕ, ◌≤◌, ◌<◌, true, List, [], ◌∷◌, ◌++◌, Option, Some, None, refl, sym, ap, ◌∙◌, subst, arith, eq-eqb}
use Rattle.std.specs.List.{AllByRecursion}
use Rattle.std.proofs.lemmas.Bool.{cond_both, cond-true}
use Rattle.std.proofs.lemmas.Bool.Decides.{Decides-eqb}
use Rattle.flow_law.specs.declared.history.HistoryEvent.{HistoryEvent}
use Rattle.flow_law.specs.declared.history.Said.{Said}
use Rattle.flow_law.specs.history.History.{Kind, Number, subscriber, emission, is_same, Owner, owner_of, with_owner, after_all, IsLegal, MaySpeak, IsOwned, IsHistory, owners_after, owners_all, IsGiven}
use Rattle.flow_law.specs.history.Lawful.{Lawful, number_in, IsNew}
use Rattle.flow_law.specs.history.Growth.{IsSilent}
use Rattle.flow_law.proofs.Rows.{every_weaker}

-- ---- numbers

pub is_same-number : (a b : Number) → is_same a b ≡ true → number_in a ≡ number_in b
is_same-number (subscriber m) (subscriber n) e = (Decides-eqb m n).0 e
is_same-number (emission m) (emission n) e = (Decides-eqb m n).0 e
is_same-number (subscriber m) (emission n) e = absurd (cc)
is_same-number (emission m) (subscriber n) e = absurd (cc)

pub is_same-refl : (a : Number) → is_same a a ≡ true
is_same-refl (subscriber n) = eq-eqb n n refl
is_same-refl (emission n) = eq-eqb n n refl

abbrev pub UpTo : ℕ → List Owner → Type 0
UpTo n = AllByRecursion (λ (o : Owner). number_in o.number ≤ n)

pub up_to_more : (m n : ℕ) (owners : List Owner) → m ≤ n → UpTo m owners → UpTo n owners
up_to_more m n owners l = every_weaker (λ (o : Owner). number_in o.number ≤ m) (λ (o : Owner). number_in o.number ≤ n) (λ o h. omega (arith, h, l)) owners

-- a number that has an owner was issued
pub owned_up_to : (n : ℕ) (number : Number) (name : List ℕ) (owners : List Owner) → UpTo n owners → owner_of number owners ≡ Some name → number_in number ≤ n
owned_up_to n number name [] h e = absurd (cc)
owned_up_to n number name (o ∷ os) h e = cond_both (is_same o.number number) (Some o.name) (owner_of number os) (λ x. x ≡ Some name → number_in number ≤ n)
    (λ t _. omega (arith, h.0, is_same-number o.number number t)) (λ _ e. owned_up_to n number name os h.1 e) e

-- a new owner, of a greater number, takes no older number away
pub owner_of_older : (number : Number) (name : List ℕ) (o : Owner) (owners : List Owner) → number_in number < number_in o.number → owner_of number owners ≡ Some name → owner_of number (o ∷ owners) ≡ Some name
owner_of_older number name o owners l e = cond_both (is_same o.number number) (Some o.name) (owner_of number owners) (λ x. x ≡ Some name)
    (λ t. absurd (omega (arith, l, is_same-number o.number number t))) (λ _. e)

-- the latest owner is found
pub newest_owner : (o : Owner) (owners : List Owner) → owner_of o.number (o ∷ owners) ≡ Some o.name
newest_owner o owners = cond-true (is_same o.number o.number) (Some o.name) (owner_of o.number owners) (is_same-refl o.number)

-- ---- histories in two parts

module _ {T S C R : Type 0} (kind : Kind T S C R) where
  pub after_all-append : (s : S) (h more : List (HistoryEvent (Said C R))) → after_all kind s (h ++ more) ≡ after_all kind (after_all kind s h) more
  after_all-append s [] more = refl
  after_all-append s (e ∷ es) more = after_all-append (kind.after s e.what.call e.what.reply) es more

  pub legal_left : (s : S) (h more : List (HistoryEvent (Said C R))) → IsLegal kind s (h ++ more) → IsLegal kind s h
  legal_left s [] more l = tt
  legal_left s (e ∷ es) more l = (l.0, legal_left (kind.after s e.what.call e.what.reply) es more l.1)

  pub legal_right : (s : S) (h more : List (HistoryEvent (Said C R))) → IsLegal kind s (h ++ more) → IsLegal kind (after_all kind s h) more
  legal_right s [] more l = l
  legal_right s (e ∷ es) more l = legal_right (kind.after s e.what.call e.what.reply) es more l.1

  pub owners_all-append : (owners : List Owner) (h more : List (HistoryEvent (Said C R))) → owners_all kind owners (h ++ more) ≡ owners_all kind (owners_all kind owners h) more
  owners_all-append owners [] more = refl
  owners_all-append owners (e ∷ es) more = owners_all-append (owners_after kind owners e) es more

  pub owned_left : (owners : List Owner) (h more : List (HistoryEvent (Said C R))) → IsOwned kind owners (h ++ more) → IsOwned kind owners h
  owned_left owners [] more o = tt
  owned_left owners (e ∷ es) more o = (o.0, owned_left (owners_after kind owners e) es more o.1)

  pub owned_right : (owners : List Owner) (h more : List (HistoryEvent (Said C R))) → IsOwned kind owners (h ++ more) → IsOwned kind (owners_all kind owners h) more
  owned_right owners [] more o = o
  owned_right owners (e ∷ es) more o = owned_right (owners_after kind owners e) es more o.1

  pub history_left : (first : S) (h more : List (HistoryEvent (Said C R))) → IsHistory kind first (h ++ more) → IsHistory kind first h
  history_left first h more is = record { begins = is.begins; legal = legal_left first h more is.legal; owned = owned_left [] h more is.owned }

  -- the token to which the last event gives a number owns it
  pub last_given : (h : List (HistoryEvent (Said C R))) (e : HistoryEvent (Said C R)) (o : Owner) → kind.gives e.name e.what.call e.what.reply ≡ Some o → IsGiven kind o.name o.number (h ++ e ∷ [])
  last_given h e o is =
      ap (owner_of o.number) (owners_all-append [] h (e ∷ []) ∙ ap (λ z. with_owner z (owners_all kind [] h)) is) ∙ newest_owner o (owners_all kind [] h)

-- ---- numbers that were issued

module _ {T S C R : Type 0} (kind : Kind T S C R) (law : Lawful kind) where
  step_up_to : (s : S) (owners : List Owner) (e : HistoryEvent (Said C R)) → kind.Replies s e.what.call e.what.reply → UpTo (law.issued s) owners
      → UpTo (law.issued (kind.after s e.what.call e.what.reply)) (owners_after kind owners e)
  step_up_to s owners e r h = at (kind.gives e.name e.what.call e.what.reply) (law.gives_new s e.name e.what.call e.what.reply r)
    where
      kept : UpTo (law.issued (kind.after s e.what.call e.what.reply)) owners
      kept = up_to_more (law.issued s) _ owners (law.rises s e.what.call e.what.reply r) h

      at : (o : Option Owner) → IsNew (law.issued s) o (law.issued (kind.after s e.what.call e.what.reply)) → UpTo (law.issued (kind.after s e.what.call e.what.reply)) (with_owner o owners)
      at None new = kept
      at (Some o) new = (new.1, kept)

  step_owner : (s : S) (owners : List Owner) (e : HistoryEvent (Said C R)) (number : Number) (name : List ℕ) → kind.Replies s e.what.call e.what.reply → UpTo (law.issued s) owners
      → owner_of number owners ≡ Some name → owner_of number (owners_after kind owners e) ≡ Some name
  step_owner s owners e number name r h is = at (kind.gives e.name e.what.call e.what.reply) (law.gives_new s e.name e.what.call e.what.reply r)
    where
      old : number_in number ≤ law.issued s
      old = owned_up_to (law.issued s) number name owners h is

      at : (o : Option Owner) → IsNew (law.issued s) o (law.issued (kind.after s e.what.call e.what.reply)) → owner_of number (with_owner o owners) ≡ Some name
      at None new = is
      at (Some o) new = owner_of_older number name o owners (omega (arith, old, new.0)) is

  -- the owners of a legal history have numbers that were issued
  pub owners_up_to : (s : S) (owners : List Owner) (h : List (HistoryEvent (Said C R))) → UpTo (law.issued s) owners → IsLegal kind s h → UpTo (law.issued (after_all kind s h)) (owners_all kind owners h)
  owners_up_to s owners [] u l = u
  owners_up_to s owners (e ∷ es) u l = owners_up_to (kind.after s e.what.call e.what.reply) (owners_after kind owners e) es (step_up_to s owners e l.0 u) l.1

  -- a number stays with the token that it was given to
  pub owner_stays : (s : S) (owners : List Owner) (h : List (HistoryEvent (Said C R))) (number : Number) (name : List ℕ) → UpTo (law.issued s) owners → IsLegal kind s h
      → owner_of number owners ≡ Some name → owner_of number (owners_all kind owners h) ≡ Some name
  owner_stays s owners [] number name u l is = is
  owner_stays s owners (e ∷ es) number name u l is =
      owner_stays (kind.after s e.what.call e.what.reply) (owners_after kind owners e) es number name (step_up_to s owners e l.0 u) l.1 (step_owner s owners e number name l.0 u is)

  pub given_stays : (s : S) (h more : List (HistoryEvent (Said C R))) (number : Number) (name : List ℕ) → IsLegal kind s (h ++ more) → IsGiven kind name number h → IsGiven kind name number (h ++ more)
  given_stays s h more number name l is =
      let u : UpTo (law.issued (after_all kind s h)) (owners_all kind [] h) = owners_up_to s [] h tt (legal_left kind s h more l) in
      ap (owner_of number) (owners_all-append kind [] h more)
      ∙ owner_stays (after_all kind s h) (owners_all kind [] h) more number name u (legal_right kind s h more l) is

  -- ---- what only the owner of a number can end

  module _ (u : ℕ) where
    -- a caller whose name is not the owner's makes no call that names the number
    others_speak : (c : C) (owners : List Owner) (name caller : List ℕ) → owner_of (subscriber u) owners ≡ Some name → caller ≢ name → MaySpeak kind (kind.speaks_of c) owners caller
        → kind.speaks_of c ≢ Some (subscriber u)
    others_speak c owners name caller is other may e =
        let told : owner_of (subscriber u) owners ≡ Some caller = subst (λ o. MaySpeak kind o owners caller) e may in
        other (same_name caller name (sym told ∙ is))
      where
        same_name : (a b : List ℕ) → Some a ≡ Some b → a ≡ b
        same_name a b p = cc

    -- what holds of a state, and is kept by each call that does not name the number, is kept while the number's owner is silent
    module _ (Holds : S → Type 0) (stays : (s : S) (c : C) (r : R) → kind.speaks_of c ≢ Some (subscriber u) → Holds s → Holds (kind.after s c r)) where
      fact_kept : (s : S) (owners : List Owner) (h : List (HistoryEvent (Said C R))) (name : List ℕ) → UpTo (law.issued s) owners → IsLegal kind s h → IsOwned kind owners h
          → IsSilent name h → owner_of (subscriber u) owners ≡ Some name → Holds s → Holds (after_all kind s h)
      fact_kept s owners [] name i l o silent is has = has
      fact_kept s owners (e ∷ es) name i l o silent is has =
          fact_kept (kind.after s e.what.call e.what.reply) (owners_after kind owners e) es name (step_up_to s owners e l.0 i) l.1 o.1 silent.1 (step_owner s owners e (subscriber u) name l.0 i is)
          (stays s e.what.call e.what.reply (others_speak e.what.call owners name e.name is silent.0 o.0) has)

      -- the same after a history h that gave the number to a token, if events of others follow
      pub kept_while_silent : (s : S) (h between : List (HistoryEvent (Said C R))) (name : List ℕ) → IsLegal kind s (h ++ between) → IsOwned kind [] (h ++ between)
          → IsSilent name between → IsGiven kind name (subscriber u) h → Holds (after_all kind s h) → Holds (after_all kind s (h ++ between))
      kept_while_silent s h between name l o silent is has =
          subst Holds (sym (after_all-append kind s h between))
          (fact_kept (after_all kind s h) (owners_all kind [] h) between name
          (owners_up_to s [] h tt (legal_left kind s h between l)) (legal_right kind s h between l) (owned_right kind [] h between o) silent is has)

    -- so a subscriber stays
    pub kept_in_silence : (s : S) (h between : List (HistoryEvent (Said C R))) (name : List ℕ) → IsLegal kind s (h ++ between) → IsOwned kind [] (h ++ between)
        → IsSilent name between → IsGiven kind name (subscriber u) h → kind.HasSubscriber u (after_all kind s h) → kind.HasSubscriber u (after_all kind s (h ++ between))
    kept_in_silence = kept_while_silent (kind.HasSubscriber u) (law.others_keep u)
