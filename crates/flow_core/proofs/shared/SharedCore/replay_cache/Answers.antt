use Rattle.std.proofs.Common.{◌≡◌, ◌≢◌, ◌-◌, true, List, [], ◌∷◌, ◌∙◌, length, refl, sym, ap, subst, drop}
use Rattle.flow_law.specs.declared.call.SharedReply.TheVariants as reply
use Rattle.flow_law.specs.flow.SharedFlow.{cache}
use Rattle.flow_law.specs.flow.SharedHistory.{hands_out}
use Rattle.flow_law.specs.flow.Standing.{StandsFor}
use Rattle.flow_law.specs.flow.Covering.{kept_start}
use Rattle.flow_law.proofs.HoldingLemmas.{same_cache}
use Rattle.flow_core.specs.SharedCore.{fields_of}
use Rattle.flow_core.proofs.shared.SharedCore.replay_cache.Goals as goal

-- the reply of a cache that is not empty hands out values
handed_out : {T : Type 0} (values : List T) → values ≢ [] → hands_out (reply.Cached values) ≡ true
handed_out [] some = absurd (some refl)
handed_out (v ∷ vs) some = refl

pub place_of-requires : goal.place_of-requires
place_of-requires g c = c.cache_start.ensures.within.0

pub returns-in-Err : goal.returns-in-Err
returns-in-Err g c = record {
  documented = (
    λ s stands.
        let i = c.self.inside in
        let within : StandsFor (fields_of i) s = subst (λ k. StandsFor k s) (sym c.self.view_is) stands in
        let place = c.place_of.ensures ∙ ap (λ n. n - (c.args.self.now.appended - length c.args.self.now.held)) c.cache_start.ensures.start
        ∙ sym (ap (λ core. kept_start core - (core.appended - length core.held)) c.self.view_is) in
        let all = ap (λ n. drop n i.values.items) place ∙ same_cache (fields_of i) s within c.self.invariant.reset_mark in
        let due = handed_out (cache s) (λ none. c.in-Err.ensures.any (all ∙ none)) in
        (rw c.in-Err.ensures.memory (rw due refl), stands),
    refl,
  );
}

pub returns-in-Ok : goal.returns-in-Ok
returns-in-Ok g c = record {
  documented = (
    λ s stands.
        let i = c.self.inside in
        let within : StandsFor (fields_of i) s = subst (λ k. StandsFor k s) (sym c.self.view_is) stands in
        let place = c.place_of.ensures ∙ ap (λ n. n - (c.args.self.now.appended - length c.args.self.now.held)) c.cache_start.ensures.start
        ∙ sym (ap (λ core. kept_start core - (core.appended - length core.held)) c.self.view_is) in
        let all = c.in-Ok.ensures.copies ∙ ap (λ n. drop n i.values.items) place ∙ same_cache (fields_of i) s within c.self.invariant.reset_mark in
        (ap reply.Cached all, stands),
    tt,
  );
}
