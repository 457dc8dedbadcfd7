-- What a reader gives if a part is refused, and which of two refusals is the first.
use Rattle.std.proofs.Common.{◌≡◌, ℕ, true, Result, Ok, Err, refl, ap, ◌∙◌}
use Rattle.script_chain_format.specs.declared.reading.fault.ScriptFault.{ScriptFault}
use Rattle.script_chain_format.specs.declared.reading.fault.ScriptFault.TheVariants.{OutOfMemory, ReadFailed, WriteFailed, NotJson, BadVersion, BadShape, UnknownName, DuplicateName, TooLarge}
use Rattle.script_chain_format.specs.Results.{Gives, result_map, comes_first, first_fault, refusing_fault, is_decisive}

-- a refusal of a part refuses a whole that keeps refusals
pub gives_err : {A B : Type 0} (m : Result A ScriptFault) (whole : Result B ScriptFault) (fault : ScriptFault) → Gives m (Err fault)
    → ((f : ScriptFault) → m ≡ Err f → whole ≡ Err f) → Gives whole (Err fault)
gives_err m whole OutOfMemory g through = tt
gives_err m whole ReadFailed g through = absurd g
gives_err m whole WriteFailed g through = absurd g
gives_err m whole NotJson g through = through NotJson g
gives_err m whole BadVersion g through = through BadVersion g
gives_err m whole (BadShape at) g through = through (BadShape at) g
gives_err m whole (UnknownName at) g through = through (UnknownName at) g
gives_err m whole (DuplicateName at) g through = through (DuplicateName at) g
gives_err m whole (TooLarge at) g through = through (TooLarge at) g

-- a refusal that takes precedence refuses a whole that keeps such refusals
pub gives_final : {A B : Type 0} (m : Result A ScriptFault) (whole : Result B ScriptFault) (fault : ScriptFault) → Gives m (Err fault) → comes_first fault ≡ true
    → ((f : ScriptFault) → comes_first f ≡ true → m ≡ Err f → whole ≡ Err f) → Gives whole (Err fault)
gives_final m whole OutOfMemory g first through = tt
gives_final m whole ReadFailed g first through = absurd g
gives_final m whole WriteFailed g first through = absurd g
gives_final m whole NotJson g first through = through NotJson refl g
gives_final m whole BadVersion g first through = through BadVersion refl g
gives_final m whole (BadShape at) g first through = through (BadShape at) refl g
gives_final m whole (UnknownName at) g first through = through (UnknownName at) refl g
gives_final m whole (DuplicateName at) g first through = through (DuplicateName at) refl g
gives_final m whole (TooLarge at) g first through = cc

-- a refusal that no later fault precedes is that of the whole
pub final-whole : {A B : Type 0} (f : A → B) (m whole : Result B ScriptFault) (r : Result A ScriptFault) → Gives m (result_map f r) → is_decisive r ≡ true
    → ((fault : ScriptFault) → comes_first fault ≡ true → m ≡ Err fault → whole ≡ Err fault) → Gives whole (result_map f r)
final-whole f m whole (Ok a) g final through = cc
final-whole f m whole (Err fault) g final through = gives_final m whole fault g final through

-- a refusal that takes precedence is the first of itself and of what is read next
pub stays-first : {A : Type 0} (fault : ScriptFault) (next : Result A ScriptFault) → comes_first fault ≡ true → first_fault fault next ≡ fault
stays-first fault (Ok a) first = refl
stays-first OutOfMemory (Err next) first = refl
stays-first ReadFailed (Err next) first = refl
stays-first WriteFailed (Err next) first = refl
stays-first NotJson (Err next) first = refl
stays-first BadVersion (Err next) first = refl
stays-first (BadShape at) (Err next) first = refl
stays-first (UnknownName at) (Err next) first = refl
stays-first (DuplicateName at) (Err next) first = refl
stays-first (TooLarge at) (Err next) first = cc

-- the first of a limit and of a refusal that is found next refuses the whole
limit-first : {B C : Type 0} (at : ℕ) (o : Result B ScriptFault) (next : ScriptFault) (whole : Result C ScriptFault) → Gives o (Err next)
    → whole ≡ Err (first_fault (TooLarge at) o) → Gives whole (Err (refusing_fault (TooLarge at) next))
limit-first at o OutOfMemory whole g is = tt
limit-first at o ReadFailed whole g is = absurd g
limit-first at o WriteFailed whole g is = absurd g
limit-first at o NotJson whole g is = is ∙ ap (λ r. Err (first_fault (TooLarge at) r)) g
limit-first at o BadVersion whole g is = is ∙ ap (λ r. Err (first_fault (TooLarge at) r)) g
limit-first at o (BadShape k) whole g is = is ∙ ap (λ r. Err (first_fault (TooLarge at) r)) g
limit-first at o (UnknownName k) whole g is = is ∙ ap (λ r. Err (first_fault (TooLarge at) r)) g
limit-first at o (DuplicateName k) whole g is = is ∙ ap (λ r. Err (first_fault (TooLarge at) r)) g
limit-first at o (TooLarge k) whole g is = is ∙ ap (λ r. Err (first_fault (TooLarge at) r)) g

-- the first of two refusals refuses the whole
gives_first : {A B C : Type 0} (m : Result A ScriptFault) (o : Result B ScriptFault) (whole : Result C ScriptFault) (fault next : ScriptFault) → Gives m (Err fault) → Gives o (Err next)
    → ((f : ScriptFault) → m ≡ Err f → whole ≡ Err (first_fault f o)) → Gives whole (Err (refusing_fault fault next))
gives_first m o whole OutOfMemory next g h through = tt
gives_first m o whole ReadFailed next g h through = absurd g
gives_first m o whole WriteFailed next g h through = absurd g
gives_first m o whole NotJson next g h through = through NotJson g ∙ ap Err (stays-first NotJson o refl)
gives_first m o whole BadVersion next g h through = through BadVersion g ∙ ap Err (stays-first BadVersion o refl)
gives_first m o whole (BadShape at) next g h through = through (BadShape at) g ∙ ap Err (stays-first (BadShape at) o refl)
gives_first m o whole (UnknownName at) next g h through = through (UnknownName at) g ∙ ap Err (stays-first (UnknownName at) o refl)
gives_first m o whole (DuplicateName at) next g h through = through (DuplicateName at) g ∙ ap Err (stays-first (DuplicateName at) o refl)
gives_first m o whole (TooLarge at) next g h through = limit-first at o next whole h (through (TooLarge at) g)

-- the same for a part that is read next and may be no refusal
pub gives_after : {A B C D : Type 0} (f : D → B) (m : Result A ScriptFault) (o : Result B ScriptFault) (whole : Result C ScriptFault) (fault : ScriptFault) (next : Result D ScriptFault)
    → Gives m (Err fault) → Gives o (result_map f next) → ((k : ScriptFault) → m ≡ Err k → whole ≡ Err (first_fault k o)) → Gives whole (Err (first_fault fault next))
gives_after f m o whole fault (Ok d) g h through = gives_err m whole fault g (λ k is. through k is ∙ ap (λ r. Err (first_fault k r)) h)
gives_after f m o whole fault (Err next) g h through = gives_first m o whole fault next g h through
