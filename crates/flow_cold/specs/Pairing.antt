-- The rest of a zip of whole numbers.
use Rattle.std.specs.Prelude.{ℤ}
use Rattle.flow_law.specs.chain.ChainRun.{ChainRun}
use Rattle.flow_law.specs.chain.OperatorRuns.{zip_run}
use Rattle.flow_operators.specs.Kept.{unless_ended, with_kept}
use Rattle.flow_cold.specs.declared.script_chain.pairing.Pairing.{Pairing}
use Rattle.flow_cold.specs.Numbers.{joined}

-- the rest of the zip, by the rests of its sides
abbrev pub pairing_rest : Pairing → ChainRun ℤ → ChainRun ℤ → ChainRun ℤ
pairing_rest pairing left right = unless_ended pairing.ended (zip_run (joined pairing.by) (with_kept pairing.kept left) right)
