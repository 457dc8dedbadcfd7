-- What the subscribers are after a `&mut` to the row of one of them was returned. No public clause cites this module.
use Rattle.std.specs.Prelude.{ℕ, Option}
use Rattle.std.specs.Borrow.{LendsIf, Fml, RattleType, MutBor}
use Rattle.std.specs.declared.alloc.Allocator.{Ghosts}
use Rattle.flow_containers.specs.contracts.members.Members.{the_row}
use Rattle.flow_containers.specs.Members.{Membership, with_row}

-- when the borrow r ends, the subscriber of this number has the last row written through r; for `None` nothing has changed
abbrev pub lends_row : (R A : RattleType) → Ghosts A.Denot → MutBor (Membership R.Denot) → ℕ → Option (MutBor R.Denot) → Fml
lends_row R A alloc s number r =
    LendsIf (the_row R A alloc) R s r (λ row. record s.now { members = with_row number row s.now.members }) s.now
