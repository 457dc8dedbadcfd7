-- Values that are copied one by one to the end of a list with room.
use Rattle.std.proofs.Common.{◌≡◌, ℕ, ◌+◌, true, List, [], ◌∷◌, ◌++◌, take, drop, Some, sym, ap, ◌∙◌, arith, append_assoc}
use Rattle.std.specs.Prelude.{Result, Ok, Err}
use Rattle.std.specs.Result.{is_ok, OnOk}
use Rattle.std.specs.List.{slice_get}
use Rattle.std.proofs.Math.Seq.{take-append-add}
use Rattle.std.proofs.lemmas.List.{take-append-drop, length-take-le}
use Rattle.std.proofs.lemmas.Option.{slice_get_within}
use Rattle.circular_buffer.proofs.Places.{slice_get-drop}
use Rattle.flow_law.proofs.MailboxSteps.{drop_here}

take_more : {X : Type 0} (k : ℕ) (xs : List X) (v : X) → slice_get xs k ≡ Some v → take (k + 1) xs ≡ take k xs ++ v ∷ []
take_more k xs v at =
    let rest = v ∷ drop (k + 1) xs in
    let counted = length-take-le k xs (omega (arith, slice_get_within xs k v at)) in
    let whole : xs ≡ take k xs ++ rest = sym (take-append-drop k xs) ∙ ap (λ l. take k xs ++ l) (drop_here k xs v at) in
    ap (take (k + 1)) whole ∙ ap (λ n. take (n + 1) (take k xs ++ rest)) (sym counted) ∙ take-append-add (take k xs) rest 1

-- a copy more, of the next value from this place on
pub copied_one_more : {X : Type 0} (from k : ℕ) (xs list longer : List X) (v : X) → slice_get xs (from + k) ≡ Some v → longer ≡ list ++ take k (drop from xs)
    → longer ++ v ∷ [] ≡ list ++ take (k + 1) (drop from xs)
copied_one_more from k xs list longer v at is =
    let here : slice_get (drop from xs) k ≡ Some v = slice_get-drop from xs k (from + k) (omega arith) ∙ at in
    ap (λ l. l ++ v ∷ []) is ∙ append_assoc list (take k (drop from xs)) (v ∷ []) ∙ ap (λ l. list ++ l) (sym (take_more k (drop from xs) v here))

-- a fact about `Ok`, for a result that is `Ok`
pub where_ok : {X E : Type 0} (P : Type 0) (r : Result X E) → is_ok r ≡ true → OnOk r P → P
where_ok P (Ok x) ok holds = holds
where_ok P (Err e) ok holds = absurd (cc)
