-- A mutable borrow of the hub of a sharing.
use Rattle.std.specs.Borrow.{Lends, MutBor, Fml, RattleType}
use Rattle.flow_turns.specs.declared.sharing.Sharing.{Sharing}
use Rattle.flow_turns.specs.contracts.sharing.Sharing.{the_row}

module _ (C H I : RattleType) (s : MutBor (Sharing C.Denot H.Denot I.Denot)) where
  -- when the borrow r ends, the sharing has the hub that was last written through r, and is otherwise unchanged
  abbrev pub LendsHub : MutBor H.Denot → Fml
  LendsHub r = Lends (the_row C H I) H s r (λ hub. record s.now { hub = hub })
