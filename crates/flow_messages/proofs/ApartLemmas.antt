-- A token that meets two others that made one call each has seen both calls.
use Rattle.std.proofs.Common.{◌≡◌, ℕ, [], ◌∷◌, ◌++◌, length, refl, sym, ap, ◌∙◌, subst, append_assoc}
use Rattle.flow_law.specs.declared.call.StateCall.TheVariants.{Set, GetValue}
use Rattle.flow_law.specs.declared.call.StateReply.TheVariants.{Done, Got}
use Rattle.flow_law.specs.declared.history.HistoryEvent.{HistoryEvent}
use Rattle.flow_law.specs.declared.states.StateFlowState.{StateFlowState}
use Rattle.flow_law.specs.history.Promise.{Token, CallsIn}
use Rattle.flow_law.specs.history.RealTime.{IsAt, InRealTime}
use Rattle.flow_law.specs.flow.StateFlow.{StateHistory, state_flow}
use Rattle.flow_law.specs.history.Tokens.{MeetsIn, HasSeenMore}
use Rattle.flow_messages.specs.Apart.{SeesBoth}
use Rattle.flow_messages.specs.Before.{SaysNumber, set_by, read_event}

-- an event keeps its place
at_later : (place : ℕ) (e : HistoryEvent SaysNumber) (h more : StateHistory ℕ) → IsAt place e h → IsAt place e (h ++ more)
at_later place e h more at = (at.0, at.1 ++ more, ap (λ l. l ++ more) at.2 ∙ append_assoc at.0 (e ∷ at.1) more, at.3)

module _ {Id : Type 0} (first : StateFlowState ℕ) where
  -- the third token meets the others, one after the other
  module _ (third setter reader between told end heard : Token Id SaysNumber) (one : MeetsIn state_flow first third setter between told) (two : MeetsIn state_flow first between reader end heard) where
    one_seen : between.knows.seen ≡ one.history
    one_seen = ap (λ (t : Token Id SaysNumber). t.knows.seen) one.sees_one

    two_seen : end.knows.seen ≡ two.history
    two_seen = ap (λ (t : Token Id SaysNumber). t.knows.seen) two.sees_one

    -- it has seen what each of them had seen
    of_setter : (place : ℕ) (e : HistoryEvent SaysNumber) → IsAt place e setter.knows.seen → IsAt place e end.knows.seen
    of_setter place e at =
        let met : IsAt place e one.history = subst (IsAt place e) (sym one.fits_other.0.1) (at_later place e setter.knows.seen one.fits_other.0.0 at) in
        let here : IsAt place e between.knows.seen = subst (IsAt place e) (sym one_seen) met in
        subst (IsAt place e) (sym two_seen) (subst (IsAt place e) (sym two.fits_one.0.1) (at_later place e between.knows.seen two.fits_one.0.0 here))

    of_reader : (place : ℕ) (e : HistoryEvent SaysNumber) → IsAt place e reader.knows.seen → IsAt place e end.knows.seen
    of_reader place e at =
        subst (IsAt place e) (sym two_seen) (subst (IsAt place e) (sym two.fits_other.0.1) (at_later place e reader.knows.seen two.fits_other.0.0 at))

    pub saw_more : HasSeenMore third end
    saw_more = (
      ap (λ (t : Token Id SaysNumber). t.table_id) two.sees_one ∙ ap (λ (t : Token Id SaysNumber). t.table_id) one.sees_one,
      ap (λ (t : Token Id SaysNumber). t.knows.name) two.sees_one ∙ ap (λ (t : Token Id SaysNumber). t.knows.name) one.sees_one,
      (
        one.fits_one.0.0 ++ two.fits_one.0.0,
        two_seen ∙ two.fits_one.0.1 ∙ ap (λ h. h ++ two.fits_one.0.0) (one_seen ∙ one.fits_one.0.1) ∙ append_assoc third.knows.seen one.fits_one.0.0 two.fits_one.0.0,
      ),
    )

    pub sees_both : (old_setter old_reader : Token Id SaysNumber) (value found : ℕ) → CallsIn state_flow first old_setter (Set value) Done setter → CallsIn state_flow first old_reader GetValue (Got found) reader
        → InRealTime two.history → SeesBoth value found old_setter.knows.name old_reader.knows.name end.knows.seen
    sees_both old_setter old_reader value found sets reads timed = record {
      set_began = sets.1.began;
      read_began = reads.1.began;
      set_place = set_place;
      read_place = read_place;
      set = set;
      read = read;
      set_first = λ was. order.order set_place read_place (read_event old_reader.knows.name reads.1.began found) read was;
      read_first = λ was. order.order read_place set_place (set_by old_setter.knows.name sets.1.began value) set was;
    }
      where
        set_place : ℕ
        set_place = length (old_setter.knows.seen ++ sets.1.grows.0)

        read_place : ℕ
        read_place = length (old_reader.knows.seen ++ reads.1.grows.0)

        set : IsAt set_place (set_by old_setter.knows.name sets.1.began value) end.knows.seen
        set = of_setter set_place (set_by old_setter.knows.name sets.1.began value) (old_setter.knows.seen ++ sets.1.grows.0, [], sets.1.grows.1, refl)

        read : IsAt read_place (read_event old_reader.knows.name reads.1.began found) end.knows.seen
        read = of_reader read_place (read_event old_reader.knows.name reads.1.began found) (old_reader.knows.seen ++ reads.1.grows.0, [], reads.1.grows.1, refl)

        order : InRealTime end.knows.seen
        order = subst InRealTime (sym two_seen) timed
