-- What contracts see of a watched reader or writer.
use Rattle.std.specs.Prelude.{Bool}
use Rattle.flow_script.specs.declared.watched.Watched.{Watched}

-- the reader or writer that is watched
abbrev pub inner_of : {I : Type 0} → Watched I → I
inner_of w = w.inner

-- whether a call of it failed, or a write of some bytes took none
abbrev pub has_failed : {I : Type 0} → Watched I → Bool
has_failed w = w.failed
