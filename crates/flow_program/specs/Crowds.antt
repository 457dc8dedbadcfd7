-- A crowd: what each subscriber gets, and what each token of it did. Begin with `GotAll`.
use Rattle.std.specs.Prelude.{◌≡◌, ℕ, suc, ◌+◌, ◌*◌, ◌<◌, leb, ltb, ◌&&◌, All, Bool, List, [], Vec, length, filter, slice_index_or, vec_len}
use Rattle.std.specs.List.{AllByRecursion}
use Rattle.atomic_table.specs.Seated.{TableId}
use Rattle.flow_gate.specs.Tokens.{GateOrigin}
use Rattle.flow_law.specs.declared.config.Overflow.TheVariants.{Suspend}
use Rattle.flow_law.specs.declared.history.Knowledge.{Knowledge}
use Rattle.flow_law.specs.declared.states.SharedFlowState.{SharedFlowState}
use Rattle.flow_law.specs.declared.call.SharedCall.{SharedCall}
use Rattle.flow_law.specs.declared.call.SharedCall.TheVariants as call
use Rattle.flow_law.specs.history.Growth.{child_name, first_knowledge}
use Rattle.flow_law.specs.history.Handles.{CallerOf, ReaderOf}
use Rattle.flow_law.specs.history.Tokens.{NumberedToken}
use Rattle.flow_law.specs.laws.Closed.{nth_child}
use Rattle.flow_law.specs.history.Done.{done_by}
use Rattle.flow_program.specs.declared.crowd.emitters.EmitsAll.{EmitsAll}
use Rattle.flow_program.specs.declared.crowd.size.CrowdSize.{CrowdSize}
use Rattle.flow_program.specs.declared.crowd.subscribers.ReadsAll.{ReadsAll}
use Rattle.flow_program.specs.Callers.{Says, OnlyEmits, Reads, HasSubscribed, taken_by}
use Rattle.flow_program.specs.Numbers.{numbers_from}

-- ---- what a subscriber gets

-- the number is one of the n numbers from the first one on
abbrev pub is_within : ℕ → ℕ → ℕ → Bool
is_within first n v = leb first v && ltb v (first + n)

-- the subscriber got as many values as all emitters emit, and of each emitter all that it emits, in its order
pub record GotAll (size : CrowdSize) (got : List ℕ) : Type 0 where
  pub count : length got ≡ size.emitters * size.values
  -- of the j-th emitter, from 0
  pub in_order : (j : ℕ) → j < size.emitters →
      filter (is_within (j * size.values) size.values) got ≡ numbers_from (j * size.values) size.values

-- each subscriber of the crowd got all values
pub record EachGotAll {Z : Type 0} (size : CrowdSize) (got : Vec (Vec ℕ Z) Z) : Type 0 where
  pub count : vec_len got ≡ size.subscribers
  pub each : All (λ (list : Vec ℕ Z). GotAll size list.items) got.items

-- ---- where a crowd begins

-- an emitter and a subscriber, each with its flow
abbrev pub Caller : Type 0
Caller = CallerOf TableId (SharedFlowState ℕ) (Says ℕ)

abbrev pub Subscriber : Type 0
Subscriber = ReaderOf TableId (SharedFlowState ℕ) (Says ℕ)

-- the first caller of a flow that suspends emitters and has a buffer; nothing was done through it
pub record IsFirst (maker : Caller) : Type 0 where
  pub suspends : maker.flow.first.config.overflow ≡ Suspend
  pub buffer : 0 < maker.flow.first.config.replay + maker.flow.first.config.extra
  pub first : maker.token.knows ≡ first_knowledge

-- ---- what the tokens did

-- the call is a subscription without first values
abbrev pub IsSubscribing : {T : Type 0} → SharedCall T → Type 0
IsSubscribing (call.Subscribe name first) = first ≡ []
IsSubscribing _ = ⊥

module _ {T : Type 0} where
  -- it is the first seat, which has only subscribed
  pub record IsMaker (k : Knowledge (Says T)) : Type 0 where
    pub name : k.name ≡ []
    pub did : AllByRecursion (λ (e : Says T). IsSubscribing e.call) (done_by k)

  -- a new subscription: the n-th token, from 0, that the first seat made, by these calls
  pub record IsNewSubscription {Id : Type 0} (did : List (Says T)) (n : ℕ) (s : NumberedToken Id (Says T)) : Type 0 where
    pub name : s.token.knows.name ≡ child_name [] (suc n)
    pub made : s.token.knows.made ≡ 0
    pub silent : done_by s.token.knows ≡ []
    pub subscribed : HasSubscribed s.token.knows.name s.number did

  -- The token is the n-th, from 0, that the first seat made by these calls, and the subscriber u. It has only read, and
  -- this is what it got.
  pub record HasRead (did : List (Says T)) (n u : ℕ) (got : List T) (k : Knowledge (Says T)) : Type 0 where
    pub name : k.name ≡ child_name [] (suc n)
    pub made : k.made ≡ 0
    pub subscribed : HasSubscribed k.name u did
    pub only : AllByRecursion (λ (e : Says T). e.call ≡ call.TakeNext u) (done_by k)
    pub taken : taken_by u (done_by k) ≡ got

-- the i-th emitter of a crowd, from 0, has emitted its values
abbrev pub HasEmitted : ℕ → ℕ → Knowledge (Says ℕ) → Type 0
HasEmitted values i k = OnlyEmits (numbers_from (i * values) values) (nth_child i first_knowledge) k

-- the emitter has only emitted since, at the same flow: `count` numbers, from `first` on
abbrev pub HasSent : ℕ → ℕ → Caller → Caller → Type 0
HasSent first count before after =
    (after.flow ≡ before.flow) × OnlyEmits (numbers_from first count) before.token.knows after.token.knows

-- the subscriber has only read since, at the same flow and by the same subscription: it got these `count` values
abbrev pub HasTaken : ℕ → Subscriber → Subscriber → List ℕ → Type 0
HasTaken count before after got =
    (after.flow ≡ before.flow) × (after.subscription.number ≡ before.subscription.number)
    × Reads before.subscription.number got before.subscription.token.knows after.subscription.token.knows
    × (length got ≡ count)

-- ---- all callers

-- The first seat, which knows this now, has made the emitters and then the subscribers of a crowd. It has only subscribed.
pub record AreMade (size : CrowdSize) (flow : GateOrigin (SharedFlowState ℕ)) (now : Knowledge (Says ℕ)) (es : List Caller) (rs : List Subscriber) : Type 0 where
  pub maker : IsMaker now
  pub made : now.made ≡ size.emitters + size.subscribers
  pub emitters : length es ≡ size.emitters
  pub subscribers : length rs ≡ size.subscribers
  -- an emitter has done nothing
  pub emitter : (i : ℕ) (d : Caller) → i < size.emitters →
      ((slice_index_or es i d).flow ≡ flow) × ((slice_index_or es i d).token.knows ≡ nth_child i first_knowledge)
  -- a subscriber has done nothing
  pub subscriber : (i : ℕ) (d : Subscriber) → i < size.subscribers → ((slice_index_or rs i d).flow ≡ flow)
      × IsNewSubscription (done_by now) (size.emitters + i) (slice_index_or rs i d).subscription

-- The threads of these callers have ended: each emitter has emitted its values, and each subscriber has read as many
-- values as all of them emit.
pub record HaveRun {Z : Type 0} (size : CrowdSize) (es : List Caller) (rs : List Subscriber) (es-after : List Caller) (rs-after : List Subscriber) (got : List (Vec ℕ Z)) : Type 0 where
  pub emitters : length es-after ≡ length es
  pub subscribers : length rs-after ≡ length rs
  pub lists : length got ≡ length rs
  pub sent : (i : ℕ) (d e : Caller) → i < length es →
      HasSent (i * size.values) size.values (slice_index_or es i e) (slice_index_or es-after i d)
  pub taken : (i : ℕ) (d r : Subscriber) (v : Vec ℕ Z) → i < length rs →
      HasTaken (size.emitters * size.values) (slice_index_or rs i r) (slice_index_or rs-after i d) (slice_index_or got i v).items

-- ---- what the threads promise

-- a promise to emit `count` numbers, from `first` on, through this emitter
abbrev pub WillEmit : Caller → ℕ → ℕ → EmitsAll → Type 0
WillEmit emitter first count p = (p.emitter.value ≡ emitter) × (p.first ≡ first) × (p.count ≡ count)

-- a promise to read `count` values by this reader
abbrev pub WillRead : Subscriber → ℕ → ReadsAll → Type 0
WillRead reader count p = (p.reader.value ≡ reader) × (p.count ≡ count)

-- the emitter has sent what its thread promised
abbrev pub HasSentAs : EmitsAll → Caller → Type 0
HasSentAs p c = HasSent p.first p.count p.emitter.value c

-- the subscriber has read what its thread promised, and got these values
abbrev pub HasTakenAs : ReadsAll → Subscriber → List ℕ → Type 0
HasTakenAs p r got = HasTaken p.count p.reader.value r got
