-- What contracts see of a hub that emits into a flow for several threads. Begin with `SeatedHub`.
use Rattle.std.specs.Prelude.{◌≡◌, ℕ, Bool, false, Option, None, is_some, Result}
use Rattle.flow_law.specs.declared.fault.FlowFault.{FlowFault}
use Rattle.flow_law.specs.declared.history.Said.{Said}
use Rattle.flow_law.specs.history.Growth.{makes, child}
use Rattle.flow_law.specs.history.History.{Kind}
use Rattle.flow_law.specs.history.Tokens.{Origin, knowing, CountsNowIn}
use Rattle.flow_law.specs.history.Promise.{Token}

-- The borrowed flow, and the hub's two seats at it. One counts the subscribers. The other emits; while an emission of the hub waits, the
-- emission holds it.
pub record SeatedHub (Id S E I : Type 0) : Type 0 where
  pub flow : Origin Id S
  pub watching : Token Id E
  pub sending : Token Id E
  -- the number of the hub's emission, if it waited at the last put or poll
  pub emission : Option ℕ
  -- what a reset sets: the initial value of a state flow, and nothing for a shared flow
  pub initial : I

-- the token is of the flow
abbrev pub IsOf : {Id S E : Type 0} → Token Id E → Origin Id S → Type 0
IsOf t flow = t.table_id ≡ flow.table_id

-- a token after the two seats of a hub were made through it
abbrev pub made_two : {Id E : Type 0} → Token Id E → Token Id E
made_two maker = knowing maker (makes (makes maker.knows))

module _ {Id S E I : Type 0} where
  -- a hub whose two seats were made through this one: first the one that counts, then the one that emits
  abbrev pub seated : Origin Id S → Token Id E → I → SeatedHub Id S E I
  seated flow maker initial = record {
    flow = flow;
    watching = knowing maker (child maker.knows);
    sending = knowing maker (child (makes maker.knows));
    emission = None;
    initial = initial;
  }

  -- the hub has an emission that waited at the last put or poll
  abbrev pub has_emission : SeatedHub Id S E I → Bool
  has_emission hub = is_some hub.emission

  -- no emission of the hub ever waits
  abbrev pub nothing_waits : SeatedHub Id S E I → Bool
  nothing_waits hub = false

  -- only the sending seat and the emission change
  abbrev pub OnlySends : SeatedHub Id S E I → SeatedHub Id S E I → Type 0
  OnlySends old new = new ≡ record old { sending = new.sending; emission = new.emission }

module _ {Id T S C R I : Type 0} (kind : Kind T S C R) where
  -- a count is a call through the watching seat; or it is Busy, and that seat lost an exchange; nothing else changes
  abbrev pub CountDoes : SeatedHub Id S (Said C R) I → Result ℕ FlowFault → SeatedHub Id S (Said C R) I → Type 0
  CountDoes old answer new =
      CountsNowIn kind old.flow.first old.watching answer new.watching × (new ≡ record old { watching = new.watching })
