use Rattle.std.proofs.Common.{◌≡◌, ◌+◌, ◌-◌, ◌≤◌, vec_len}
use Rattle.std.specs.Io.KnownBytes.{Consumes}
use Rattle.script_format.specs.Checks.{most_bytes}
use Rattle.flow_script.proofs.transfer.read_all.Given as goal

abbrev pub invariant-loop-input : goal.invariant-loop-input
invariant-loop-input g l =
    let remaining = g.R.Read.remaining in
    record {
      short : vec_len l.bytes ≤ most_bytes + 1;
      taken : Consumes (remaining l.fn.input.inner) (remaining l.input.inner) l.bytes.items;
      failed : l.input.failed ≡ l.fn.input.failed;
    }

abbrev pub decreases-loop-input : goal.decreases-loop-input
decreases-loop-input g l = most_bytes + 1 - vec_len l.bytes
