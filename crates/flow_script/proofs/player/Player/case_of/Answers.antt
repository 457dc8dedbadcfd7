use Rattle.std.proofs.Common.{◌≡◌, subst, sym}
use Rattle.flow_script.specs.declared.case.Case.TheVariants.{Plain}
use Rattle.flow_script.specs.Cases.{player_case}
use Rattle.flow_script.specs.Players.{ShowsPlayer}
use Rattle.flow_script.specs.ScriptMeaning.{Player}
use Rattle.flow_script.proofs.CaseLemmas.{of-shared, of-state, of-share, of-state-in}
use Rattle.flow_script.proofs.player.Player.case_of.Goals as goal

pub returns-in-Shared : goal.returns-in-Shared
returns-in-Shared c = subst (λ k. (p : Player) → ShowsPlayer k p → c.shared_case.result ≡ player_case c.args.step p) (sym c.in-Shared.is) (of-shared c.args.step _ _ c.shared_case.ensures)

pub returns-in-State : goal.returns-in-State
returns-in-State c = subst (λ k. (p : Player) → ShowsPlayer k p → c.state_case.result ≡ player_case c.args.step p) (sym c.in-State.is) (of-state c.args.step _ _ c.state_case.ensures)

pub returns-in-Share : goal.returns-in-Share
returns-in-Share c = subst (λ k. (p : Player) → ShowsPlayer k p → Plain ≡ player_case c.args.step p) (sym c.in-Share.is) (of-share c.args.step _)

pub returns-in-StateIn : goal.returns-in-StateIn
returns-in-StateIn c = subst (λ k. (p : Player) → ShowsPlayer k p → Plain ≡ player_case c.args.step p) (sym c.in-StateIn.is) (of-state-in c.args.step _)
