-- A history of any kind of flow with one more event at its end.
use Rattle.std.proofs.Common.{◌≡◌, List, [], ◌∷◌, ◌++◌, refl}
use Rattle.flow_law.specs.declared.history.HistoryEvent.{HistoryEvent}
use Rattle.flow_law.specs.declared.history.Said.{Said}
use Rattle.flow_law.specs.history.History.{Kind, Owner, after_all, IsLegal, MaySpeak, MayCall, IsOwned, IsHistory, owners_all, owners_after}

module _ {T S C R : Type 0} (kind : Kind T S C R) where
  pub after_all-snoc : (s : S) (h : List (HistoryEvent (Said C R))) (e : HistoryEvent (Said C R)) → after_all kind s (h ++ e ∷ []) ≡ kind.after (after_all kind s h) e.what.call e.what.reply
  after_all-snoc s [] e = refl
  after_all-snoc s (x ∷ xs) e = after_all-snoc (kind.after s x.what.call x.what.reply) xs e

  pub IsLegal-snoc : (s : S) (h : List (HistoryEvent (Said C R))) (e : HistoryEvent (Said C R)) → IsLegal kind s h → kind.Replies (after_all kind s h) e.what.call e.what.reply → IsLegal kind s (h ++ e ∷ [])
  IsLegal-snoc s [] e l r = (r, tt)
  IsLegal-snoc s (x ∷ xs) e l r = (l.0, IsLegal-snoc (kind.after s x.what.call x.what.reply) xs e l.1 r)

  pub IsOwned-snoc : (owners : List Owner) (h : List (HistoryEvent (Said C R))) (e : HistoryEvent (Said C R)) → IsOwned kind owners h
      → MaySpeak kind (kind.speaks_of e.what.call) (owners_all kind owners h) e.name → IsOwned kind owners (h ++ e ∷ [])
  IsOwned-snoc owners [] e l r = (r, tt)
  IsOwned-snoc owners (x ∷ xs) e l r = (l.0, IsOwned-snoc (owners_after kind owners x) xs e l.1 r)

  pub IsHistory-snoc : (first : S) (h : List (HistoryEvent (Said C R))) (e : HistoryEvent (Said C R)) → IsHistory kind first h → kind.Replies (after_all kind first h) e.what.call e.what.reply → MayCall kind e.what.call e.name h
      → IsHistory kind first (h ++ e ∷ [])
  IsHistory-snoc first h e old r may = record { begins = old.begins; legal = IsLegal-snoc first h e old.legal r; owned = IsOwned-snoc [] h e old.owned may }
