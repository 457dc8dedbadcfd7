-- How the parts of a call are added to those of a caller's calls, without where their lists lie.
use Rattle.std.proofs.Common.{◌≡◌, List, [], ◌∷◌, ◌++◌, map, Option, ap, ◌∙◌, append_assoc}
use Rattle.std.proofs.lemmas.List.{map-append}
use Rattle.flow_check.specs.declared.timed.Timed.{Timed}
use Rattle.flow_check.specs.declared.shared_calls.SharedOperation.{SharedOperation}
use Rattle.flow_check.specs.declared.shared_calls.SharedAnswer.{SharedAnswer}
use Rattle.flow_check.specs.declared.shared_calls.SharedEntry.{SharedEntry}
use Rattle.record_judging.specs.declared.written.WrittenCall.{WrittenCall}
use Rattle.record_judging.specs.SharedRows.{plain, shared_part}

abbrev Part : Type 0
Part = Timed SharedEntry

-- a part is one of this operation and this answer
part_is : (call : WrittenCall) (x : Part) (o p : SharedOperation) (a b : Option SharedAnswer) → plain x ≡ shared_part call o a → o ≡ p → a ≡ b → plain x ≡ shared_part call p b
part_is call x o p a b is op ans = is ∙ ap (λ (y : SharedOperation). shared_part call y a) op ∙ ap (λ (y : Option SharedAnswer). shared_part call p y) ans

-- one part was added
pub part_pushed : (call : WrittenCall) (old new : List Part) (x : Part) (o p : SharedOperation) (a b : Option SharedAnswer)
    → new ≡ old ++ x ∷ [] → plain x ≡ shared_part call o a → o ≡ p → a ≡ b → map plain new ≡ map plain old ++ shared_part call p b ∷ []
part_pushed call old new x o p a b added is op ans =
    ap (map plain) added ∙ map-append plain old (x ∷ []) ∙ ap (λ (y : Part). map plain old ++ y ∷ []) (part_is call x o p a b is op ans)

-- the first part, the one of the call's word and the last one were added
pub parts_pushed : (call : WrittenCall) (old one two new firsts lasts : List Part) (x : Part) (o p : SharedOperation) (a b : Option SharedAnswer)
    → map plain one ≡ map plain old ++ firsts → two ≡ one ++ x ∷ [] → plain x ≡ shared_part call o a → o ≡ p → a ≡ b → map plain new ≡ map plain two ++ lasts
    → map plain new ≡ map plain old ++ (firsts ++ shared_part call p b ∷ lasts)
parts_pushed call old one two new firsts lasts x o p a b first added is op ans last =
    let part = shared_part call p b in
    last ∙ ap (λ (ys : List Part). ys ++ lasts) (part_pushed call one two x o p a b added is op ans ∙ ap (λ (ys : List Part). ys ++ part ∷ []) first)
    ∙ append_assoc (map plain old ++ firsts) (part ∷ []) lasts ∙ append_assoc (map plain old) firsts (part ∷ lasts)
