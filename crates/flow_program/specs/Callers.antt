-- What one caller at a shared flow has done, if it only emits or only reads. Begin with `OnlyEmits` and `Reads`.
use Rattle.std.specs.Prelude.{◌≡◌, ◌⊎◌, ℕ, List, [], ◌∷◌, flat_map}
use Rattle.std.specs.List.{AllByRecursion}
use Rattle.flow_law.specs.declared.history.Knowledge.{Knowledge}
use Rattle.flow_law.specs.declared.history.Said.{Said}
use Rattle.flow_law.specs.declared.call.SharedCall.{SharedCall}
use Rattle.flow_law.specs.declared.call.SharedCall.TheVariants as call
use Rattle.flow_law.specs.declared.call.SharedReply.{SharedReply}
use Rattle.flow_law.specs.declared.call.SharedReply.TheVariants as reply
use Rattle.flow_law.specs.laws.Accepted.{accepted}
use Rattle.flow_law.specs.history.Done.{Made}
use Rattle.flow_law.specs.flow.Mailbox.{received_by}
use Rattle.flow_law.specs.history.Promise.{said}

-- one call with its reply
abbrev pub Says : Type 0 → Type 0
Says T = Said (SharedCall T) (SharedReply T)

module _ {T : Type 0} where
  -- the call is an emission, or a poll of one
  abbrev pub IsEmitting : SharedCall T → Type 0
  IsEmitting (call.Emit v) = Unit {0}
  IsEmitting (call.Poll e) = Unit {0}
  IsEmitting _ = ⊥

  -- the values that `next` gave to u in these calls, in order
  abbrev pub taken_by : ℕ → List (Says T) → List T
  taken_by u = flat_map (λ (e : Says T). received_by u e.call e.reply)

  -- from `before` to `after` the token has only emitted, and the flow accepted these values of it, in this order
  abbrev pub OnlyEmits : List T → Knowledge (Says T) → Knowledge (Says T) → Type 0
  OnlyEmits values before after =
      (added : List (Says T)) × Made added before after
      × AllByRecursion (λ (e : Says T). IsEmitting e.call) added × (accepted added ≡ values)

  -- from `before` to `after` the token has only called `next` of the subscriber u, which gave these values, in this order
  abbrev pub Reads : ℕ → List T → Knowledge (Says T) → Knowledge (Says T) → Type 0
  Reads u values before after =
      (added : List (Says T)) × Made added before after
      × AllByRecursion (λ (e : Says T). e.call ≡ call.TakeNext u) added × (taken_by u added ≡ values)

  -- the calls contain a `subscribe` for the token of this name, which got this number
  abbrev pub HasSubscribed : List ℕ → ℕ → List (Says T) → Type 0
  HasSubscribed name u [] = ⊥
  HasSubscribed name u (e ∷ es) =
      (e ≡ said (call.Subscribe name []) (reply.Subscribed u)) ⊎ HasSubscribed name u es
