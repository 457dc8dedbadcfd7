-- What a caller can conclude of a `set` and a `value` by two callers that never met, after it has met both. Begin with `SeesBoth`.
use Rattle.std.specs.Prelude.{ℕ, ◌<◌, List}
use Rattle.flow_law.specs.history.RealTime.{IsAt, WasThere}
use Rattle.flow_law.specs.flow.StateFlow.{StateHistory}
use Rattle.flow_messages.specs.Before.{set_by, read_event}

-- the history has both calls; if one of them had returned when the other one began, it comes first
pub record SeesBoth (value found : ℕ) (setter reader : List ℕ) (h : StateHistory ℕ) : Type 0 where
  -- how many events the history had when each of the calls began
  pub set_began : ℕ
  pub read_began : ℕ
  -- where each of the events is
  pub set_place : ℕ
  pub read_place : ℕ
  pub set : IsAt set_place (set_by setter set_began value) h
  pub read : IsAt read_place (read_event reader read_began found) h
  -- the `set` comes first if it had returned when the `value` began
  pub set_first : WasThere set_place (read_event reader read_began found) → set_place < read_place
  -- the `value` comes first if it had returned when the `set` began
  pub read_first : WasThere read_place (set_by setter set_began value) → read_place < set_place
