use Rattle.std.proofs.Common.{◌≡◌, inr, refl, sym, subst, None, Result, Ok, Err, IfOk, IfErr, MatchResult}
use Rattle.flow_law.specs.flow.SharedFlow.{first_state, config_fault}
use Rattle.flow_law.specs.flow.Standing.{StandsFor}
use Rattle.flow_law.specs.history.Tokens.{Begins}
use Rattle.flow_shared.proofs.shared.Flow+SharedCore+T+A+A.new.Goals as goal

-- by whether a flow was made
module _ {X E : Type 0} {P Made : X → Type 0} {Q Fails : E → Type 0} (made : (x : X) → P x → Made x) (fails : (e : E) → Q e → Fails e) where
  either : (r : Result X E) → IfOk r P → IfErr r Q → MatchResult r Made Fails
  either (Ok x) p q = made x p
  either (Err e) p q = fails e q

pub begin-requires-clause-may : goal.begin-requires-clause-may
begin-requires-clause-may g c =
    let made = c.in_ok-core.ensures in
    (refl, subst (λ config. config_fault config ≡ None) (sym made.1.config) made.0)

pub begin-requires-clause-stands : goal.begin-requires-clause-stands
begin-requires-clause-stands g c =
    let stands = c.in_ok-core.ensures.1 in
    subst (λ config. StandsFor c.in_ok-core.core (first_state config)) (sym stands.config) stands

pub returns : goal.returns
returns g c =
    let fits = c.in_ok-core.ensures in
    either (λ made begun. (fits.0, subst (λ config. Begins (first_state config) made) fits.1.config begun)) (λ fault none. inr (fits.0, none)) c.begin.result c.begin.ensures.begun c.begin.ensures.memory
