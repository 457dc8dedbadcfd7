-- The flows of a script of the reader, and those of the definitions that they stand for.
use Rattle.std.proofs.Common.{◌≡◌, ℕ, true, Err, List, [], ◌∷◌, length, String, Global, string_bytes, string_cmp, refl, sym, ap, ◌∙◌}
use Rattle.std.specs.List.Sorted.{IsStrictlySortedBy}
use Rattle.std.specs.Map.{keys_of}
use Rattle.std.specs.Ordering.{match_ordering}
use Rattle.serde_json.specs.Data.{Members, no_members, member, put}
use Rattle.serde_json.specs.Events.{members_len}
use Rattle.serde_json.specs.View.{view, members_view}
use Rattle.serde_json.specs.declared.value.Value.{Value}
use Rattle.script_chain_format.specs.declared.reading.fault.ScriptFault.{ScriptFault}
use Rattle.script_format.specs.Flows.{flows_after, in_key_order, named_flow, named_flows, no_flows_of}
use Rattle.script_chain_format.specs.Results.{comes_first}
use Rattle.script_chain_format.proofs.ListLemmas.{members_len_is}
use Rattle.script_chain_format.proofs.ResultLemmas.{stays-first}

-- a map has its members in the order of their keys
pub ordered : (es : List (String Global × Value)) → IsStrictlySortedBy string_cmp (keys_of es) → in_key_order (members_view es) ≡ members_view es
unfolding IsStrictlySortedBy
ordered [] sorted = refl
ordered (e ∷ []) sorted = refl
ordered (e ∷ f ∷ es) sorted =
    ap (put (string_bytes e.0) (view e.1)) (ordered (f ∷ es) sorted.1)
    ∙ ap (λ o. match_ordering o (member (string_bytes e.0) (view e.1) (members_view (f ∷ es))) (member (string_bytes f.0) (view e.1) (members_view es))
    (member (string_bytes f.0) (view f.1) (put (string_bytes e.0) (view e.1) (members_view es)))) sorted.0.0

-- before the first flow
pub flows-begin : (es iterator : List (String Global × Value)) (count : ℕ) → count ≡ length es → iterator ≡ es → IsStrictlySortedBy string_cmp (keys_of es)
    → flows_after (no_flows_of count) (members_view iterator) ≡ named_flows (members_view es)
flows-begin es iterator count is begins sorted =
    ap (λ n. flows_after (no_flows_of n) (members_view iterator)) (is ∙ sym (members_len_is es))
    ∙ ap (λ l. flows_after (no_flows_of (members_len (members_view es))) (members_view l)) begins
    ∙ ap (flows_after (no_flows_of (members_len (members_view es)))) (sym (ordered es sorted))

-- a fault that takes precedence stays, whatever flows follow
pub flows-final : (fault : ScriptFault) (ms : Members) → comes_first fault ≡ true → flows_after (Err fault) ms ≡ Err fault
flows-final fault no_members first = refl
flows-final fault (member name d ms) first = ap (λ f. flows_after (Err f) ms) (stays-first fault (named_flow name d) first) ∙ flows-final fault ms first
