-- What each way of playing promises of a script, whatever calls it makes. Begin with `RefusesAlike`.
use Rattle.std.specs.Prelude.{◌≡◌, ℕ, List, Ok, Err, false, codes}
use Rattle.script_chain_format.specs.Results.{Gives}
use Rattle.script_chain_format.specs.declared.reading.fault.ScriptFault.{ScriptFault}
use Rattle.flow_script.specs.Lines.{lined}
use Rattle.flow_script.specs.Playing.{write_failed}
use Rattle.flow_script.specs.ScriptMeaning.{script_meaning}

-- the fault refuses the script, as `flow_play` refuses it, or it is out of memory; it is not that a write failed
abbrev pub RefusesAlike : List ℕ → ScriptFault → Type 0
RefusesAlike bytes fault = Gives (script_meaning bytes) (Err fault) × (write_failed fault ≡ false)

-- `flow_play` does not refuse the script
abbrev pub IsPlayable : List ℕ → Type 0
IsPlayable bytes = (text : List ℕ) × (script_meaning bytes ≡ Ok text)

-- the line for wrong arguments of `flow_play_over`
abbrev pub over_usage : List ℕ
over_usage = lined (codes "usage: flow_play_over one-thread | threads | futures | word | all")
