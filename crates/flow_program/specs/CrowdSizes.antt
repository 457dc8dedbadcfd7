-- The sizes that a crowd may have.
use Rattle.std.specs.Prelude.{ℕ, leb, ◌&&◌, cond, Option, Some, None}
use Rattle.flow_program.specs.declared.crowd.size.CrowdSize.{CrowdSize}

-- the size of a crowd, if it has 1 to 8 emitters, at most 8 subscribers, and at most 10,000 values of each emitter
abbrev pub crowd_size : ℕ → ℕ → ℕ → Option CrowdSize
crowd_size emitters subscribers values =
    cond (leb 1 emitters && leb emitters 8 && leb subscribers 8 && leb values 10000)
    (Some (record { emitters = emitters; subscribers = subscribers; values = values })) None
