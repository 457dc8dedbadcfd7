use Rattle.std.proofs.Common.{true, false, None, refl, sym, subst}
use Rattle.flow_law.specs.declared.sharing.Command.TheVariants.{Start, Stop, StopAndReset, Keep}
use Rattle.flow_turns.specs.SharingViews.{sharing_state}
use Rattle.flow_turns.specs.TurnParts.{sharing_parts, ActsBy, CommandLeads}
use Rattle.flow_turns.proofs.StepLemmas.{works-on}
use Rattle.flow_turns.proofs.sharing.Sharing.obey.Goals as goal

pub returns-in-Start-clause-steps : goal.returns-in-Start-clause-steps
returns-in-Start-clause-steps g c =
    let new = record c.args.self.now { chain = c.rewind.new.self; completed = false } in
    subst (λ command. CommandLeads (ActsBy g.C.Cold.Reads g.C.Cold.whole g.C.Cold.rest g.H.Hub.does g.H.Hub.waits) command c.args.self.now new) (sym c.in-Start.is)
    (λ all ran is turned last h. (
      tt,
      sharing_parts new,
      ((λ m r. ((c.rewind.ensures.reads m r, c.rewind.ensures.whole m), c.rewind.ensures.rest m)), refl),
      works-on _ _ _ _ Start all (sharing_state new) _ is h,
    ))

pub returns-in-Stop-clause-steps : goal.returns-in-Stop-clause-steps
returns-in-Stop-clause-steps g c =
    let new = record c.args.self.now { kept = None; cancel_due = true } in
    subst (λ command. CommandLeads (ActsBy g.C.Cold.Reads g.C.Cold.whole g.C.Cold.rest g.H.Hub.does g.H.Hub.waits) command c.args.self.now new) (sym c.in-Stop.is)
    (λ all ran is turned last h. works-on _ _ _ _ Stop all (sharing_state new) _ is h)

pub returns-in-StopAndReset-clause-steps : goal.returns-in-StopAndReset-clause-steps
returns-in-StopAndReset-clause-steps g c =
    let new = record c.args.self.now { kept = None; cancel_due = true; reset_due = true } in
    subst (λ command. CommandLeads (ActsBy g.C.Cold.Reads g.C.Cold.whole g.C.Cold.rest g.H.Hub.does g.H.Hub.waits) command c.args.self.now new) (sym c.in-StopAndReset.is)
    (λ all ran is turned last h. works-on _ _ _ _ StopAndReset all (sharing_state new) _ is h)

pub returns-in-Keep-clause-steps : goal.returns-in-Keep-clause-steps
returns-in-Keep-clause-steps g c =
    let new = c.args.self.now in
    subst (λ command. CommandLeads (ActsBy g.C.Cold.Reads g.C.Cold.whole g.C.Cold.rest g.H.Hub.does g.H.Hub.waits) command c.args.self.now new) (sym c.in-Keep.is)
    (λ all ran is turned last h. works-on _ _ _ _ Keep all (sharing_state new) _ is h)
