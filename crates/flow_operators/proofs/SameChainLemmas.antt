-- Calls one after the other keep a chain.
use Rattle.std.proofs.Common.{refl, ◌∙◌}
use Rattle.flow_operators.specs.declared.cold.Cold.{Ghosts}
use Rattle.flow_operators.specs.SameChain.{StaysChain}

module _ {C T : Type 0} {cold : Ghosts C T} where
  pub stays-then : {old between new : C} → StaysChain cold old between → StaysChain cold between new → StaysChain cold old new
  stays-then first second = record {
    callable = second.callable;
    reads = λ m r. second.reads m (first.reads m r);
    whole = λ m. second.whole m ∙ first.whole m;
    lasting = λ given. second.lasting (first.lasting given);
  }
