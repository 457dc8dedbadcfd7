-- A fault is the last item of a stream, also if it is out of memory instead of the chain's answer.
use Rattle.std.proofs.Common.{◌≡◌, ◌⊎◌, List, Option, Result, Err, inl, inr, subst}
use Rattle.flow_law.specs.declared.chain.ChainFault.{ChainFault}
use Rattle.flow_law.specs.declared.chain.ChainFault.TheVariants.{OutOfMemory}
use Rattle.flow_law.specs.declared.chain.End.TheVariants.{Completed, Failed}
use Rattle.flow_law.specs.chain.ChainRun.{ChainRun, gives, pends, ends}
use Rattle.flow_operators.specs.Streams.{Streams, Last}

module _ {T : Type 0} where
  streams_memory : (p : ChainRun T) (xs : List (Result T ChainFault)) (last : Option (Result T ChainFault)) → Last (Err OutOfMemory) xs last → Streams p xs last
  streams_memory (gives x p) xs last h = inr h
  streams_memory (pends p) xs last h = inr h
  streams_memory (ends Completed) xs last h = inr h
  streams_memory (ends (Failed f)) xs last h = inr h

  pub streams_fault : (p : ChainRun T) (f : ChainFault) → (p ≡ ends (Failed f)) ⊎ (f ≡ OutOfMemory)
      → (xs : List (Result T ChainFault)) (last : Option (Result T ChainFault)) → Last (Err f) xs last → Streams p xs last
  streams_fault p f (inl e) xs last h = rw e (inl h)
  streams_fault p f (inr e) xs last h = streams_memory p xs last (subst (λ k. Last (Err k) xs last) e h)
