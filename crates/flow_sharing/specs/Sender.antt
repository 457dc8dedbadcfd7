-- The token by which a hub emits into a shared flow.
use Rattle.std.specs.Prelude.{ℕ, Option, Some, None}
use Rattle.flow_shared.specs.SharedReplies.{SharedToken}
use Rattle.flow_sharing.specs.declared.sender.Sender.{Sender}
use Rattle.flow_sharing.specs.declared.sender.Sender.TheVariants.{Idle, Waiting}

module _ {T A : Type 0} where
  -- the token of the sender, whether or not its emission waits
  abbrev pub sender_token : Sender T A → SharedToken T
  sender_token (Idle seat) = seat
  sender_token (Waiting emission) = emission.token

  -- the number of the emission that waits
  abbrev pub sender_emission : Sender T A → Option ℕ
  sender_emission (Idle seat) = None
  sender_emission (Waiting emission) = Some emission.number
