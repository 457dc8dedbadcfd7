-- The first number of a range, and the rest of its run.
use Rattle.std.proofs.Common.{◌≡◌, ℤ, pos, ◌+ℤ◌, true, false, arith, w64}
use Rattle.std.specs.Int.Signed.{lt_z}
use Rattle.std.proofs.lemmas.Grind.{common_steps}
use mir.Val.{SFits}
use Rattle.flow_law.specs.declared.chain.End.TheVariants.{Completed}
use Rattle.flow_law.specs.chain.ChainRun.{gives, ends}
use Rattle.flow_operators.specs.Sources.{range_run}

pub range_run-more : (first last : ℤ) → lt_z last first ≡ false → lt_z first last ≡ true → range_run first last ≡ gives first (range_run (first +ℤ pos 1) last)
range_run-more first last within more = grind (arith, common_steps)

pub range_run-last : (first last : ℤ) → lt_z last first ≡ false → lt_z first last ≡ false → range_run first last ≡ gives first (ends Completed)
range_run-last first last within only = grind (arith, common_steps)

pub next_fits : (first last : ℤ) → SFits w64 first → SFits w64 last → lt_z first last ≡ true → SFits w64 (first +ℤ pos 1)
next_fits first last a b more = grind (arith, common_steps)
