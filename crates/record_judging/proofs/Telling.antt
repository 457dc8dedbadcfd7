-- The words on a record: they belong to its status, and lines follow in an order.
use Rattle.std.proofs.Common.{◌≡◌, ℕ, ◌+◌, ◌<◌, Bool, true, false, List, [], ◌∷◌, ◌++◌, length, get_or, take, refl, sym, ap, ◌∙◌, subst, inl, inr, append-nil, append_assoc}
use Rattle.std.proofs.lemmas.List.{take_more}
use Rattle.std.specs.Prelude.{Option, codes, decimal, Vec}
use Rattle.std.specs.declared.alloc.Global.{Global}
use Rattle.flow_check.specs.declared.verdict.Verdict.{Verdict}
use Rattle.flow_check.specs.declared.verdict.Verdict.TheVariants.{Legal, Illegal, GaveUp}
use Rattle.record_judging.specs.declared.written.Sheet.{Sheet}
use Rattle.record_judging.specs.declared.written.WrittenCall.{WrittenCall}
use Rattle.record_judging.specs.Verdicts.{legal, illegal, refused, gave_up, BeginsWith, Read, read_of, JudgesRead, HasCalls, IsStatus, TellsMoment, TellsConflict, TellsOf, TellsOrder, TellsVerdict, TellsRecord, next_call, call_number, IsLineOf, IsLineOfTurn, AreLinesAfter, name_of, status_of}
use Rattle.record_judging.specs.Cursors.{AddsCallLine}
use Rattle.record_judging.proofs.Called.{has_calls}

-- ---- words and status

none_unasked : (with_order : Bool) (read : Read) (order lines : List ℕ) → TellsOrder with_order read order lines → with_order ≡ false → lines ≡ []
none_unasked true read order lines told e = absurd (cc)
none_unasked false read order lines told e = told

belongs : (with_order : Bool) (read : Read) (verdict : Verdict) (status : ℕ) (words : List ℕ) → status ≡ status_of verdict → TellsOf with_order read verdict words → TellsVerdict with_order status words
belongs with_order read (Legal order) status words is told = inl (is, (told.0, told.1, none_unasked with_order read order.items told.0 told.2))
belongs with_order read Illegal status words is told = inr (inl (is, (told.0, told.1)))
belongs with_order read GaveUp status words is told = inr (inr (inr (is, told)))

-- the words belong to the status
pub tells_verdict : (with_order : Bool) (status : ℕ) (words : List ℕ) → TellsRecord with_order status words → TellsVerdict with_order status words
tells_verdict with_order status words told = elim told [
  | inl x ↦ inr (inr (inl x))
  | inr x ↦ belongs with_order x.read x.verdict status words x.has_status x.tells
]

-- the words and the status of each verdict
abbrev TellsAll : Bool → Read → Verdict → ℕ → List ℕ → Type 0
TellsAll with_order read verdict status words = (status ≡ status_of verdict) × TellsOf with_order read verdict words

pub told_legal : (with_order : Bool) (read : Read) (verdict : Verdict) (order : Vec ℕ Global) (lines words : List ℕ) (status : ℕ) → verdict ≡ Legal order
    → TellsOrder with_order read order.items lines → words ≡ codes "legal\n" ++ lines → status ≡ legal → TellsAll with_order read verdict status words
told_legal with_order read verdict order lines words status e told are is = subst (λ (v : Verdict). TellsAll with_order read v status words) (sym e) (is, (lines, are, told))

pub told_illegal : (with_order : Bool) (read : Read) (verdict : Verdict) (lines words : List ℕ) (status : ℕ) → verdict ≡ Illegal
    → TellsConflict read lines → words ≡ codes "illegal\n" ++ lines → status ≡ illegal → TellsAll with_order read verdict status words
told_illegal with_order read verdict lines words status e told are is = subst (λ (v : Verdict). TellsAll with_order read v status words) (sym e) (is, (lines, are, told))

pub told_gave_up : (with_order : Bool) (read : Read) (verdict : Verdict) (words : List ℕ) (status : ℕ) → verdict ≡ GaveUp
    → words ≡ codes "gave up\n" ++ [] → status ≡ gave_up → TellsAll with_order read verdict status words
told_gave_up with_order read verdict words status e are is = subst (λ (v : Verdict). TellsAll with_order read v status words) (sym e) (is, are ∙ append-nil (codes "gave up\n"))

called : (read : Read) (verdict : Verdict) → JudgesRead read verdict → HasCalls read verdict
called read (Legal order) judges = has_calls read.flow read.lists read.rows order judges
called read Illegal judges = tt
called read GaveUp judges = tt

-- the words on a record that was read
pub tells_read : (with_order : Bool) (sheet : Sheet) (verdict : Verdict) (status : ℕ) (words : List ℕ) → JudgesRead (read_of sheet) verdict → TellsAll with_order (read_of sheet) verdict status words → TellsRecord with_order status words
tells_read with_order sheet verdict status words judges told = inr (record { read = read_of sheet; verdict = verdict; judges = judges; has_calls = called (read_of sheet) verdict judges; has_status = told.0; tells = told.1 })

pub tells_refused : (with_order : Bool) (status : ℕ) (words : List ℕ) → (status ≡ refused) × BeginsWith (codes "refused: ") words → TellsRecord with_order status words
tells_refused with_order status words told = inl told

pub status_read : (sheet : Sheet) (verdict : Verdict) (status : ℕ) → JudgesRead (read_of sheet) verdict → status ≡ status_of verdict → IsStatus status
status_read sheet verdict status judges is = inr (read_of sheet, (verdict, judges, is))

-- ---- lines

-- one more turn
line_added : (read : Read) (before order : List ℕ) (caller : ℕ) (lines line : List ℕ) → AreLinesAfter read before order lines → IsLineOfTurn read (before ++ order) caller line
    → AreLinesAfter read before (order ++ caller ∷ []) (lines ++ line)
line_added read before [] caller lines line are is = (
  line,
  (
    [],
    ap (λ (xs : List ℕ). xs ++ line) are ∙ sym (append-nil line),
    subst (λ (turns : List ℕ). IsLineOfTurn read turns caller line) (append-nil before) is,
    refl,
  ),
)
line_added read before (other ∷ order) caller lines line are is =
    let more = are.1 in
    let after : IsLineOfTurn read ((before ++ other ∷ []) ++ order) caller line =
    subst (λ (turns : List ℕ). IsLineOfTurn read turns caller line) (sym (append_assoc before (other ∷ []) order)) is in (
      are.0,
      (
        more.0 ++ line,
        ap (λ (xs : List ℕ). xs ++ line) more.1 ∙ append_assoc are.0 more.0 line,
        more.2,
        line_added read (before ++ other ∷ []) order caller more.0 line more.3 after,
      ),
    )

-- the line of the next turn was added
pub line_told : (read : Read) (order : List ℕ) (i : ℕ) (next : Option WrittenCall) (lines new : List ℕ) → i < length order → AreLinesAfter read [] (take i order) lines
    → next ≡ next_call read (take i order) (get_or order i 0) → AddsCallLine (call_number next) (name_of read.names (get_or order i 0)) lines new
    → AreLinesAfter read [] (take (i + 1) order) new
line_told read order i next lines new within are is added =
    let caller = get_or order i 0 in
    let line : IsLineOfTurn read (take i order) caller added.0 =
    subst (λ (call : Option WrittenCall). IsLineOf (call_number call) (name_of read.names caller) added.0) is added.2 in
    let told = line_added read [] (take i order) caller lines added.0 are line in
    subst (λ (turns : List ℕ). AreLinesAfter read [] turns new) (sym (take_more order i 0 within)) (
    subst (AreLinesAfter read [] (take i order ++ caller ∷ [])) (sym added.1) told)

-- a front of five parts, and what is left
front_of_five : (a b c d e rest : List ℕ) → a ++ (b ++ (c ++ (d ++ (e ++ rest)))) ≡ (a ++ (b ++ (c ++ (d ++ e)))) ++ rest
front_of_five a b c d e rest =
    sym (append_assoc a (b ++ (c ++ (d ++ e))) rest ∙ ap (λ (xs : List ℕ). a ++ xs) (
    append_assoc b (c ++ (d ++ e)) rest ∙ ap (λ (xs : List ℕ). b ++ xs) (
    append_assoc c (d ++ e) rest ∙ ap (λ (xs : List ℕ). c ++ xs) (append_assoc d e rest))))

front_of_three : (a b c rest : List ℕ) → a ++ (b ++ (c ++ rest)) ≡ (a ++ (b ++ c)) ++ rest
front_of_three a b c rest = sym (append_assoc a (b ++ c) rest ∙ ap (λ (xs : List ℕ). a ++ xs) (append_assoc b c rest))

-- a line was added that begins with a number and a name
pub part_added : (number : ℕ) (named name old new rest : List ℕ) → named ≡ name
    → new ≡ old ++ (codes "  " ++ (decimal number ++ (codes "  " ++ (named ++ (codes " " ++ rest))))) → AddsCallLine number name old new
part_added number named name old new rest e added =
    let line = codes "  " ++ (decimal number ++ (codes "  " ++ (named ++ (codes " " ++ rest)))) in (
      line,
      added,
      (
        rest,
        subst (λ (xs : List ℕ). line ≡ (codes "  " ++ (decimal number ++ (codes "  " ++ (xs ++ codes " ")))) ++ rest) e
            (front_of_five (codes "  ") (decimal number) (codes "  ") named (codes " ") rest),
      ),
    )

-- lines that begin with a moment
pub moment_told : (moment : ℕ) (old new rest : List ℕ) → old ≡ []
    → new ≡ old ++ (codes "by moment " ++ (decimal moment ++ (codes " no order explains the calls; from " ++ rest))) → TellsMoment moment new
moment_told moment old new rest none told = (
  rest,
  told ∙ ap (λ (xs : List ℕ). xs ++ (codes "by moment " ++ (decimal moment ++ (codes " no order explains the calls; from " ++ rest)))) none
      ∙ front_of_three (codes "by moment ") (decimal moment) (codes " no order explains the calls; from ") rest,
)
