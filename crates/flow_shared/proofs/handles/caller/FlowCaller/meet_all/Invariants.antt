use Rattle.std.proofs.Common.{◌≡◌, ℕ, ◌<◌, ◌≤◌, get_or}
use Rattle.flow_law.specs.history.Rounds.{OnlyMeets, MeetsInTurn}
use Rattle.flow_shared.proofs.handles.caller.FlowCaller.meet_all.Given as goal

abbrev pub invariant-loop-k : goal.invariant-loop-k
invariant-loop-k g l = record {
  flow : l.self.flow ≡ l.initial.self.flow;
  flows : (j : ℕ) (d : _) → (get_or l.others j d).flow ≡ (get_or l.initial.others j d).flow;
  met : OnlyMeets l.initial.self.token l.self.token
      × ((j : ℕ) (d : _) → l.k ≤ j → get_or l.others j d ≡ get_or l.initial.others j d)
      × ((j : ℕ) (d : _) → j < l.k → MeetsInTurn g.S.FlowCore.kind l.initial.self.flow.first l.initial.self.token.knows l.self.token.knows (get_or l.initial.others j d).token (get_or l.others j d).token);
}
