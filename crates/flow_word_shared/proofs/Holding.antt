-- A seat between the step that takes the lock bit and the step that gives it up: only what its token holds changes. Begin with `held_twice`.
use Rattle.std.proofs.Common.{◌≡◌, ℕ, Bool, List, [], ◌∷◌, Option, Some, refl, sym, ap, ◌∙◌, subst}
use Rattle.atomic_table.specs.declared.shared.Seat.{Seat}
use Rattle.flow_law.specs.declared.call.SharedCall.{SharedCall}
use Rattle.flow_law.specs.declared.call.SharedReply.{SharedReply}
use Rattle.flow_law.specs.history.Tokens.{token}
use Rattle.flow_word_shared.specs.declared.view.RingKnown.{RingKnown}
use Rattle.flow_word_shared.specs.declared.view.Hold.{Hold}
use Rattle.flow_word_shared.specs.declared.view.RingStart.{RingStart}
use Rattle.flow_word_shared.specs.declared.place.Room.{Room}
use Rattle.flow_word_shared.specs.declared.place.Room.TheVariants.{Open, Blocked, Unknown}
use Rattle.flow_word_shared.specs.Rule.{capacity_of}
use Rattle.flow_word_shared.specs.PlaceSteps.{HasRoom, FindsRoom}
use Rattle.flow_word_shared.specs.Steps.{MeOf, StepCalls, Holds, emission_of, emission_done}
use Rattle.flow_word_shared.specs.Tokens.{word_flow_id, ring_token}
use Rattle.flow_word_shared.specs.View.{with_hold, only}

module _ {T : Type 0} where
  -- the seat still has one token, which holds this
  pub held_then : (a b : MeOf T) (hold : Option Hold) → a ≡ (only a.0 ∷ [], []) → Holds a hold b → (b ≡ (only b.0 ∷ [], [])) × ((only b.0).hold ≡ hold)
  held_then a b hold is told =
      subst (λ (m : MeOf T). (m ≡ (only m.0 ∷ [], [])) × ((only m.0).hold ≡ hold)) (sym (told ∙ (λ i. (with_hold hold (only a.0) ∷ [], ap (λ (m : MeOf T). m.1) is i)))) (refl, refl)

  -- one step after another
  pub held_twice : (a b c : MeOf T) (h k : Option Hold) → Holds a h b → Holds b k c → Holds a k c
  held_twice a b c h k one two = two ∙ (λ i. (with_hold k (only (one i).0) ∷ [], (one i).1))

  -- a call after such a step
  pub held_calls : (a b c : MeOf T) (h : Option Hold) (call : SharedCall T) (reply : SharedReply T) → Holds a h b → StepCalls b call reply c → StepCalls a call reply c
  held_calls a b c h call reply one two = subst (λ (m : MeOf T). StepCalls m call reply c) one two

  -- the seat has made no call
  pub held_token : (s t : Seat Unit (List (RingKnown T))) (h : Option Hold) → t.table_id ≡ s.table_id → Holds s.me h t.me → ring_token t ≡ ring_token s
  held_token s t h table told = λ i. token (word_flow_id (table i) (only (told i).0).start) (only (told i).0).knows

  -- looking for room after a load of the lower bound
  pub finds_after : (value_of : List ℕ → T) (tries : Bool) (room : Room) (a b c : MeOf T) (low : ℕ) → ((h : Hold) → (only a.0).hold ≡ Some h → Holds a (Some (record h { low = Some low })) b)
      → FindsRoom value_of tries room b c → FindsRoom value_of tries room a c
  finds_after value_of tries Open a b c low one two = λ h has. let o = one h has in let k = two (record h { low = Some low }) (ap (λ (m : MeOf T). (only m.0).hold) o) in
      (k.0, held_twice a b c (Some (record h { low = Some low })) (Some k.0) o k.1, subst (λ (z : RingStart). HasRoom k.0 (capacity_of z)) (ap (λ (m : MeOf T). (only m.0).start) o) k.2, k.3, k.4, k.5)
  finds_after value_of tries Blocked a b c low one two = λ h has. let o = one h has in let k = two (record h { low = Some low }) (ap (λ (m : MeOf T). (only m.0).hold) o) in
      (held_calls a b c (Some (record h { low = Some low })) (emission_of tries (value_of h.cells)) (emission_done tries) o k.0, k.1 ∙ ap (λ (m : MeOf T). (only m.0).reads) o, k.2)
  finds_after value_of tries Unknown a b c low one two = λ h has. let o = one h has in let k = two (record h { low = Some low }) (ap (λ (m : MeOf T). (only m.0).hold) o) in
      (k.0, held_twice a b c (Some (record h { low = Some low })) (Some k.0) o k.1, k.2, k.3)
