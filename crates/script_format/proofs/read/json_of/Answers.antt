use Rattle.std.proofs.Common.{◌≡◌, true, false, Err, refl, subst, ap, ◌∙◌}
use Rattle.std.specs.Prelude.{IsTrue, if◌then◌else◌}
use Rattle.std.specs.Str.{is_utf8}
use Rattle.std.proofs.lemmas.Str.{is_utf8-from_IsUtf8, IsUtf8-from_is_utf8}
use Rattle.serde_json.specs.Read.{read}
use Rattle.serde_json.specs.Errors.{IsMemory}
use Rattle.script_chain_format.specs.declared.reading.fault.ScriptFault.TheVariants.{NotJson}
use Rattle.script_chain_format.specs.Results.{or_fault}
use Rattle.script_format.proofs.ReadLemmas.{json_is}
use Rattle.script_format.proofs.read.json_of.Goals as goal

pub returns-in-Ok : goal.returns-in-Ok
returns-in-Ok c = json_is c.args.bytes.now (is_utf8-from_IsUtf8 c.args.bytes.now c.in-Ok.ensures.ok.0) ∙ ap (or_fault NotJson) c.in-Ok.ensures.ok.1

pub returns-in-Err-2 : goal.returns-in-Err-2
returns-in-Err-2 c =
    let other : IsMemory c.in-Err.error → ⊥ = λ memory.
    let both : false ≡ true = subst (λ b. IsTrue b) c.if-is_memory.false (c.is_memory.ensures.1 memory) in (cc) in
    elim (is_utf8 c.args.bytes.now) as (λ t. is_utf8 c.args.bytes.now ≡ t → (if t then or_fault NotJson (read c.args.bytes.now) else Err NotJson) ≡ Err NotJson) [
      | true ↦ λ text. ap (or_fault NotJson) (c.in-Err.ensures.err other (IsUtf8-from_is_utf8 c.args.bytes.now text))
      | false ↦ λ _. refl
    ] refl
