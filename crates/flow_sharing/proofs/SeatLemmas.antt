-- What a hub's seats have seen after a call begins with what they had seen before. Begin with `follows-on`.
use Rattle.std.proofs.Common.{[], ◌∷◌, ◌++◌, sym, refl, ap, ◌∙◌, append_assoc, append-nil}
use Rattle.flow_law.specs.declared.history.Said.{Said}
use Rattle.flow_law.specs.history.Growth.{event}
use Rattle.flow_law.specs.history.History.{Kind}
use Rattle.flow_law.specs.history.Promise.{said, Token, CallsAtOnceIn}
use Rattle.flow_law.specs.history.Tokens.{IsBusy, HasSeenMore}
use Rattle.flow_sharing.specs.SeatedHub.{SeatedHub}
use Rattle.flow_sharing.specs.OverThreads.{FollowsInTurn}

module _ {Id E : Type 0} where
  pub seen-here : (t : Token Id E) → HasSeenMore t t
  seen-here t = (refl, refl, ([], sym (append-nil t.knows.seen)))

  pub seen-on : (a b c : Token Id E) → HasSeenMore a b → HasSeenMore b c → HasSeenMore a c
  seen-on a b c (table, name, (more, is)) (table', name', (more', is')) = (
    table' ∙ table,
    name' ∙ name,
    (more ++ more', is' ∙ ap (λ h. h ++ more') is ∙ append_assoc a.knows.seen more more'),
  )

  pub seen-busy : (before after : Token Id E) → IsBusy before after → HasSeenMore before after
  seen-busy before after is = (ap (λ (t : Token Id E). t.table_id) is, ap (λ (t : Token Id E). t.knows.name) is, ([], ap (λ (t : Token Id E). t.knows.seen) is ∙ sym (append-nil before.knows.seen)))

module _ {Id T S C R : Type 0} (kind : Kind T S C R) (first : S) where
  pub seen-called : (before after : Token Id (Said C R)) (call : C) (reply : R) → CallsAtOnceIn kind first before call reply after → HasSeenMore before after
  seen-called before after call reply called =
      let grows = called.0.1.grows in (
        called.0.0,
        called.0.1.name,
        (grows.0 ++ event before.knows.name called.0.1.began (said call reply) ∷ [], grows.1 ∙ append_assoc before.knows.seen grows.0 (event before.knows.name called.0.1.began (said call reply) ∷ [])),
      )

module _ {Id S E I : Type 0} where
  pub follows-here : (h : SeatedHub Id S E I) → FollowsInTurn h h
  follows-here h = (refl, refl, seen-here h.watching, seen-here h.sending)

  pub follows-on : (g h k : SeatedHub Id S E I) → FollowsInTurn g h → FollowsInTurn h k → FollowsInTurn g k
  follows-on g h k one next =
      (next.0 ∙ one.0, next.1 ∙ one.1, seen-on g.watching h.watching k.watching one.2 next.2, seen-on g.sending h.sending k.sending one.3 next.3)
