-- What a caller of a crowd has done after one call, and after several.
use Rattle.std.proofs.Common.{◌≡◌, ◌≢◌, ℕ, zero, suc, length, length-append, ◌+◌, ◌==◌, arith, eq-eqb, append-nil, List, [], ◌∷◌, ◌++◌, refl, sym, ap, ◌∙◌, subst, append_assoc}
use Rattle.std.specs.Prelude.{flat_map}
use Rattle.std.specs.List.{AllByRecursion}
use Rattle.std.proofs.lemmas.Bool.{cond-true}
use Rattle.flow_law.specs.declared.fault.FlowFault.{FlowFault}
use Rattle.flow_law.specs.declared.history.HistoryEvent.{HistoryEvent}
use Rattle.flow_law.specs.declared.history.Knowledge.{Knowledge}
use Rattle.flow_law.specs.declared.outcome.Emit.{Emit}
use Rattle.flow_law.specs.declared.outcome.Next.TheVariants.{Value, Empty}
use Rattle.flow_law.specs.declared.call.SharedCall.{SharedCall}
use Rattle.flow_law.specs.declared.call.SharedCall.TheVariants as call
use Rattle.flow_law.specs.declared.call.SharedReply.{SharedReply}
use Rattle.flow_law.specs.declared.call.SharedReply.TheVariants as reply
use Rattle.flow_law.specs.laws.Accepted.{accepted_by, accepted}
use Rattle.flow_law.specs.history.Done.{done_by}
use Rattle.flow_law.specs.flow.Mailbox.{received_by}
use Rattle.flow_law.specs.history.Growth.{IsMadeBy, NamesOnlyMade, child, child_name}
use Rattle.flow_law.specs.history.Promise.{said, AddsOne}
use Rattle.flow_law.proofs.DoneLemmas.{every_append, made_nothing, made_more, made_one, said_by_silent}
use Rattle.flow_law.proofs.Names.{every_weaker}
use Rattle.flow_program.specs.Callers.{Says, IsEmitting, taken_by, OnlyEmits, Reads}
use Rattle.flow_program.specs.Numbers.{numbers_from}
use Rattle.flow_program.proofs.ReceivedLemmas.{EndsNothing}

flat-append : {X Y : Type 0} (f : X → List Y) (xs ys : List X) → flat_map f (xs ++ ys) ≡ flat_map f xs ++ flat_map f ys
flat-append f [] ys = refl
flat-append f (x ∷ xs) ys = ap (λ l. f x ++ l) (flat-append f xs ys) ∙ sym (append_assoc (f x) (flat_map f xs) (flat_map f ys))

-- one more number in a row
pub numbers_more : (first n : ℕ) → numbers_from first (n + 1) ≡ numbers_from first n ++ (first + n) ∷ []
numbers_more first n = let e : n + 1 ≡ suc n = omega arith in ap (numbers_from first) e

pub numbers_length : (first n : ℕ) → length (numbers_from first n) ≡ n
numbers_length first zero = refl
numbers_length first (suc n) = length-append (numbers_from first n) ((first + n) ∷ []) ∙ ap (λ k. k + 1) (numbers_length first n) ∙ (let e : n + 1 ≡ suc n = omega arith in e)

module _ {T : Type 0} where
  -- ---- emitting

  pub emits_none : (k : Knowledge (Says T)) → OnlyEmits [] k k
  emits_none k = ([], made_nothing k, tt, refl)

  pub emits_more : (v w : List T) (a b c : Knowledge (Says T)) → OnlyEmits v a b → OnlyEmits w b c → OnlyEmits (v ++ w) a c
  emits_more v w a b c x y = (
    x.0 ++ y.0,
    made_more x.0 y.0 a b c x.1 y.1,
    every_append (λ (e : Says T). IsEmitting e.call) x.0 y.0 x.2 y.2,
    flat-append (λ (e : Says T). accepted_by e.call e.reply) x.0 y.0 ∙ ap (λ l. l ++ accepted y.0) x.3 ∙ ap (λ l. v ++ l) y.3,
  )

  module _ (IsHistory : List (HistoryEvent (Says T)) → Type 0) (before after : Knowledge (Says T)) where
    pub emits_one : (v : T) (r : Emit) → AddsOne IsHistory before (call.Emit v) (reply.Emitted r) after → OnlyEmits (v ∷ []) before after
    emits_one v r a = (said (call.Emit v) (reply.Emitted r) ∷ [], made_one IsHistory before after (call.Emit v) (reply.Emitted r) a, (tt, tt), refl)

    pub emits_refused : (v : T) (fault : FlowFault) → AddsOne IsHistory before (call.Emit v) (reply.Refused fault) after → OnlyEmits [] before after
    emits_refused v fault a = (said (call.Emit v) (reply.Refused fault) ∷ [], made_one IsHistory before after (call.Emit v) (reply.Refused fault) a, (tt, tt), refl)

    pub emits_poll : (e : ℕ) (r : SharedReply T) → AddsOne IsHistory before (call.Poll e) r after → OnlyEmits [] before after
    emits_poll e r a = (said (call.Poll e) r ∷ [], made_one IsHistory before after (call.Poll e) r a, (tt, tt), refl)

  -- ---- reading

  pub reads_none : (u : ℕ) (k : Knowledge (Says T)) → Reads u [] k k
  reads_none u k = ([], made_nothing k, tt, refl)

  pub reads_more : (u : ℕ) (v w : List T) (a b c : Knowledge (Says T)) → Reads u v a b → Reads u w b c → Reads u (v ++ w) a c
  reads_more u v w a b c x y = (
    x.0 ++ y.0,
    made_more x.0 y.0 a b c x.1 y.1,
    every_append (λ (e : Says T). e.call ≡ call.TakeNext u) x.0 y.0 x.2 y.2,
    flat-append (λ (e : Says T). received_by u e.call e.reply) x.0 y.0 ∙ ap (λ l. l ++ taken_by u y.0) x.3 ∙ ap (λ l. v ++ l) y.3,
  )

  module _ (IsHistory : List (HistoryEvent (Says T)) → Type 0) (u : ℕ) (before after : Knowledge (Says T)) where
    pub reads_one : (v : T) → AddsOne IsHistory before (call.TakeNext u) (reply.Received (Value v)) after → Reads u (v ∷ []) before after
    reads_one v a = (
      said (call.TakeNext u) (reply.Received (Value v)) ∷ [],
      made_one IsHistory before after (call.TakeNext u) (reply.Received (Value v)) a,
      (refl, tt),
      append-nil _ ∙ cond-true (u == u) (v ∷ []) [] (eq-eqb u u refl),
    )

    pub reads_empty : AddsOne IsHistory before (call.TakeNext u) (reply.Received Empty) after → Reads u [] before after
    reads_empty a = (said (call.TakeNext u) (reply.Received Empty) ∷ [], made_one IsHistory before after (call.TakeNext u) (reply.Received Empty) a, (refl, tt), refl)

  -- ---- what these calls do not do

  ends_nothing : (c : SharedCall T) → IsEmitting c → EndsNothing c
  ends_nothing (call.TryEmit v) is = absurd is
  ends_nothing (call.Emit v) is = tt
  ends_nothing (call.Poll e) is = tt
  ends_nothing (call.Cancel e) is = absurd is
  ends_nothing (call.Subscribe name first) is = absurd is
  ends_nothing (call.TakeNext u) is = absurd is
  ends_nothing (call.Unsubscribe u) is = absurd is
  ends_nothing call.ReplayCache is = absurd is
  ends_nothing call.ResetReplayCache is = absurd is
  ends_nothing call.SubscriptionCount is = absurd is

  pub emitting_ends_nothing : (es : List (Says T)) → AllByRecursion (λ (e : Says T). IsEmitting e.call) es → AllByRecursion (λ (e : Says T). EndsNothing e.call) es
  emitting_ends_nothing = every_weaker (λ (e : Says T). IsEmitting e.call) (λ (e : Says T). EndsNothing e.call) (λ e. ends_nothing e.call)

  pub reading_ends_nothing : (u : ℕ) (es : List (Says T)) → AllByRecursion (λ (e : Says T). e.call ≡ call.TakeNext u) es → AllByRecursion (λ (e : Says T). EndsNothing e.call) es
  reading_ends_nothing u = every_weaker (λ (e : Says T). e.call ≡ call.TakeNext u) (λ (e : Says T). EndsNothing e.call) (λ e is. subst EndsNothing (sym is) tt)

  pub reading_gives_nothing : (u : ℕ) (es : List (Says T)) → AllByRecursion (λ (e : Says T). e.call ≡ call.TakeNext u) es → AllByRecursion (λ (e : Says T). accepted_by e.call e.reply ≡ []) es
  reading_gives_nothing u = every_weaker (λ (e : Says T). e.call ≡ call.TakeNext u) (λ (e : Says T). accepted_by e.call e.reply ≡ []) (λ e is. ap (λ c. accepted_by c e.reply) is)

  pub accepted_none : (es : List (Says T)) → AllByRecursion (λ (e : Says T). accepted_by e.call e.reply ≡ []) es → accepted es ≡ []
  accepted_none [] a = refl
  accepted_none (e ∷ es) a = ap (λ l. l ++ accepted es) a.0 ∙ accepted_none es a.1

-- a seat that was just made has done nothing
pub made_silent : {E : Type 0} (k : Knowledge E) → NamesOnlyMade k.name k.made k.seen → done_by (child k) ≡ []
made_silent {E} k names = said_by_silent (child_name k.name (k.made + 1)) k.seen
    (every_weaker (λ (e : HistoryEvent E). IsMadeBy k.name k.made e.name) (λ (e : HistoryEvent E). e.name ≢ child_name k.name (k.made + 1)) (λ e n same. let p = n (k.made + 1) [] same in omega arith) k.seen names)
