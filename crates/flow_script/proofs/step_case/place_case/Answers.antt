use Rattle.std.proofs.Common.{◌≡◌, Option, subst, sym}
use Rattle.flow_script.specs.declared.case.Case.TheVariants.{Plain}
use Rattle.flow_script.specs.Cases.{place_case}
use Rattle.flow_script.specs.Rows.{ShowsPlace}
use Rattle.flow_script.specs.ScriptMeaning.{PlayedFlow}
use Rattle.flow_script.proofs.CaseLemmas.{of-flow, of-none}
use Rattle.flow_script.proofs.step_case.place_case.Goals as goal

pub returns-in-Some : goal.returns-in-Some
returns-in-Some c = subst (λ k. (flow : Option PlayedFlow) → ShowsPlace k flow → c.case_of.result ≡ place_case c.args.step flow) (sym c.in-Some.is) (of-flow c.args.step c.in-Some.flow c.case_of.result c.case_of.ensures)

pub returns-in-None : goal.returns-in-None
returns-in-None c = subst (λ k. (flow : Option PlayedFlow) → ShowsPlace k flow → Plain ≡ place_case c.args.step flow) (sym c.in-None.is) (of-none c.args.step)
