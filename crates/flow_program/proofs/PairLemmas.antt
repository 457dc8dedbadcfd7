-- A pair of threads: what the subscriber got is what the emitter sent.
use Rattle.std.proofs.Common.{inl, inr, ◌≡◌, ℕ, ◌+◌, ◌<◌, List, [], ◌∷◌, ◌++◌, length, refl, sym, ap, ◌∙◌, subst, arith}
use Rattle.std.specs.List.{AllByRecursion}
use Rattle.flow_law.specs.declared.config.Overflow.TheVariants.{Suspend}
use Rattle.flow_law.specs.declared.history.Knowledge.{Knowledge}
use Rattle.flow_law.specs.declared.call.SharedCall.TheVariants as call
use Rattle.flow_law.specs.declared.call.SharedReply.TheVariants as reply
use Rattle.flow_law.specs.declared.states.SharedFlowState.{SharedFlowState}
use Rattle.flow_law.specs.history.Growth.{first_knowledge, child_name, makes, child}
use Rattle.flow_law.specs.history.History.{IsHistory}
use Rattle.flow_law.specs.history.Promise.{said, AddsOne}
use Rattle.flow_law.specs.flow.SharedHistory.{shared_flow}
use Rattle.flow_law.specs.laws.Accepted.{accepted_by, accepted}
use Rattle.flow_law.specs.history.Done.{done_by}
use Rattle.flow_law.specs.laws.Closed.{AreAll}
use Rattle.flow_law.specs.history.Rounds.{HasClosedHistory}
use Rattle.flow_law.proofs.ClosedLemmas.{first_and_made}
use Rattle.flow_law.proofs.DoneLemmas.{made_one}
use Rattle.flow_program.specs.Callers.{Says, taken_by, OnlyEmits, Reads, HasSubscribed}
use Rattle.flow_program.proofs.ReceivedLemmas.{EndsNothing}
use Rattle.flow_program.proofs.CallerLemmas.{emitting_ends_nothing, reading_ends_nothing, reading_gives_nothing, accepted_none, made_silent}
use Rattle.flow_program.proofs.LineLemmas.{NoneEnded, from_one, got_all}

module _ {T : Type 0} (first : SharedFlowState T) (suspends : first.config.overflow ≡ Suspend) (room : 0 < first.config.replay + first.config.extra) where
  -- the emitter subscribed for the reader, and then sent xs; the reader, which got as many values, got these
  pub got_what_was_sent : (start between sender reader : Knowledge (Says T)) (u : ℕ) (xs got : List T) → start ≡ first_knowledge
      → AddsOne (IsHistory shared_flow first) start (call.Subscribe (child_name start.name (start.made + 1)) []) (reply.Subscribed u) between
      → OnlyEmits xs (makes between) sender → Reads u got (child between) reader → length got ≡ length xs → HasClosedHistory shared_flow first (sender ∷ reader ∷ []) → got ≡ xs
  got_what_was_sent start between sender reader u xs got begins subscribes emits reads count ended =
      let sub : Says T = said (call.Subscribe (child_name start.name (start.made + 1)) []) (reply.Subscribed u) in
      let begun = made_one (IsHistory shared_flow first) start between (call.Subscribe (child_name start.name (start.made + 1)) []) (reply.Subscribed u) subscribes in
      let name : between.name ≡ [] = begun.name ∙ ap (λ (k : Knowledge (Says T)). k.name) begins in
      let made : between.made ≡ 0 = begun.made ∙ ap (λ (k : Knowledge (Says T)). k.made) begins in
      let sent : done_by sender ≡ sub ∷ emits.0 = emits.1.done ∙ ap (λ l. l ++ emits.0) (begun.done ∙ ap (λ (k : Knowledge (Says T)). done_by k ++ sub ∷ []) begins) in
      let read : done_by reader ≡ reads.0 = reads.1.done ∙ ap (λ l. l ++ reads.0) (made_silent between subscribes.names) in
      let reader_name : reader.name ≡ child_name [] 1 = reads.1.name ∙ (λ i. child_name (name i) (made i + 1)) in
      let ks = sender ∷ reader ∷ [] in
      let all : AreAll ks = first_and_made sender (reader ∷ []) (emits.1.name ∙ name) (emits.1.made ∙ ap (λ n. n + 1) made) ((reader_name, reads.1.made), tt) in
      let none : NoneEnded ks = (subst (AllByRecursion (λ (e : Says T). EndsNothing e.call)) (sym sent) (refl, emitting_ends_nothing emits.0 emits.2), (subst (AllByRecursion (λ (e : Says T). EndsNothing e.call)) (sym read) (reading_ends_nothing u reads.0 reads.2), tt)) in
      let gives : accepted (done_by sender) ≡ xs = ap accepted sent ∙ emits.3 in
      let reader_gives : AllByRecursion (λ (e : Says T). accepted_by e.call e.reply ≡ []) (done_by reader) = subst (AllByRecursion (λ (e : Says T). accepted_by e.call e.reply ≡ [])) (sym read) (reading_gives_nothing u reads.0 reads.2) in
      let takes : taken_by u (done_by reader) ≡ got = ap (taken_by u) read ∙ reads.3 in
      let a : length (accepted (done_by sender)) ≡ length xs = ap length gives in
      let b : length (accepted (done_by reader)) ≡ 0 = ap length (accepted_none (done_by reader) reader_gives) in
      let d : length (taken_by u (done_by reader)) ≡ length got = ap length takes in
      let has : HasSubscribed reader.name u (done_by sender) = subst (HasSubscribed reader.name u) (sym sent)
      (inl (ap (λ n. said (call.Subscribe n []) (reply.Subscribed u)) ((λ i. child_name (begins i).name ((begins i).made + 1)) ∙ sym reader_name))) in
      sym takes ∙ got_all ks ended.0 all ended.2 first ended.1 suspends room none sender reader u ended.2.0 ended.2.1.0 has (omega arith)
      ∙ from_one ks ended.0 all ended.2 (λ (e : Says T). accepted_by e.call e.reply) sender ended.2.0 (inl refl, (inr reader_gives, tt)) ∙ gives
