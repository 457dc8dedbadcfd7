-- What the operators on whole numbers compute. A result that is no i64 is Overflow.
use Rattle.std.specs.Prelude.{ℕ, zero, suc, ◌%◌, ◌==◌, ℤ, pos, ◌+ℤ◌, ◌*ℤ◌, int_lt, unsigned_abs, Bool, not, cond, List, map, replicate, Result, Ok, Err}
use Rattle.std.specs.Ordering.{int_eq}
use Rattle.std.specs.List.{list_all}
use Rattle.flow_law.specs.declared.chain.ChainFault.{ChainFault}
use Rattle.flow_law.specs.declared.chain.ChainFault.TheVariants.{Overflow}
use Rattle.flow_law.specs.declared.chain.End.TheVariants.{Completed}
use Rattle.flow_law.specs.chain.ChainRun.{ChainRun, ends, list_run}
use Rattle.flow_cold.specs.declared.script_chain.op.Arithmetic.{Arithmetic}
use Rattle.flow_cold.specs.declared.script_chain.op.Arithmetic.TheVariants as arithmetic
use Rattle.flow_cold.specs.declared.script_chain.op.Joining.{Joining}
use Rattle.flow_cold.specs.declared.script_chain.op.Joining.TheVariants as joining
use Rattle.flow_cold.specs.declared.script_chain.op.Spread.{Spread}
use Rattle.flow_cold.specs.declared.script_chain.op.Spread.TheVariants as spread
use Rattle.flow_cold.specs.declared.script_chain.op.Test.{Test}
use Rattle.flow_cold.specs.declared.script_chain.op.Test.TheVariants as test
pub use Rattle.flow_operators.specs.Numbers.{is_i64, ranged}
use Rattle.flow_operators.specs.Sources.{range_run}

-- what an operator computes of two numbers
abbrev pub computed : Arithmetic → ℤ × ℤ → Result ℤ ChainFault
computed arithmetic.Add (x, y) = ranged (x +ℤ y)
computed arithmetic.Mul (x, y) = ranged (x *ℤ y)

-- what a `zip` computes of two numbers
abbrev pub joined : Joining → ℤ × ℤ → Result ℤ ChainFault
joined joining.Add (x, y) = ranged (x +ℤ y)
joined joining.Mul (x, y) = ranged (x *ℤ y)
joined joining.Left (x, y) = Ok x
joined joining.Right (x, y) = Ok y

-- whether a number passes the test
abbrev pub passes : Test → ℤ → Bool
passes test.Even x = unsigned_abs x % 2 == 0
passes test.Odd x = unsigned_abs x % 2 == 1
passes (test.Less k) x = int_lt x k
passes (test.Greater k) x = int_lt k x
passes (test.NotEqual k) x = not (int_eq x k)

-- x plus each entry of the list, or Overflow if a sum is no i64
abbrev pub sums : List ℤ → ℤ → Result (List ℤ) ChainFault
sums entries x = cond (list_all (λ d. is_i64 (x +ℤ d)) entries) (Ok (map (λ d. x +ℤ d) entries)) (Err Overflow)

-- the `count` numbers from x on, or Overflow if the last is no i64
abbrev pub following : ℕ → ℤ → Result (ChainRun ℤ) ChainFault
following zero x = Ok (ends Completed)
following (suc n) x = cond (is_i64 (x +ℤ pos n)) (Ok (range_run x (x +ℤ pos n))) (Err Overflow)

-- the inner chain that replaces an item
abbrev pub spread_run : Spread → ℕ → ℤ → Result (ChainRun ℤ) ChainFault
spread_run spread.Range count x = following count x
spread_run spread.Repeat count x = Ok (list_run (replicate count x))
