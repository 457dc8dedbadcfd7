use Rattle.std.proofs.Common.{sym, subst, ◌∙◌}
use Rattle.script_chain_format.specs.Results.{Gives}
use Rattle.script_chain_format.specs.Chains.{numbers_result}
use Rattle.script_chain_format.specs.SourceFormat.{whole_number}
use Rattle.script_chain_format.proofs.ChainLemmas.{few-enough, misshapen, too-many}
use Rattle.script_chain_format.proofs.read_source.numbers_of.Goals as goal

pub returns-then-values-most : goal.returns-then-values-most
returns-then-values-most c =
    subst (λ m. Gives m (numbers_result c.whole_numbers.result)) (sym (few-enough whole_number c.args.at c.args.most c.args.values.now c.if-values-most.true)) c.whole_numbers.ensures

pub returns-then-are_whole_numbers : goal.returns-then-are_whole_numbers
returns-then-are_whole_numbers c =
    too-many whole_number c.args.at c.args.most c.args.values.now c.if-values-most.false (sym c.are_whole_numbers.ensures ∙ c.if-are_whole_numbers.true)

pub returns-else-are_whole_numbers : goal.returns-else-are_whole_numbers
returns-else-are_whole_numbers c = misshapen c.args.at c.args.most _ (sym c.are_whole_numbers.ensures ∙ c.if-are_whole_numbers.false)
