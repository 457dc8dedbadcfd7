-- The lengths of the lists of JSON data, and what is left of a list from an index on.
use Rattle.std.proofs.Common.{◌≡◌, Bool, ◌||◌, map, ℕ, suc, ◌+◌, ◌<◌, List, [], ◌∷◌, length, drop, get_or, String, Global, refl, sym, ap, ◌∙◌, add-one}
use Rattle.std.proofs.Math.Seq.{drop-cons}
use Rattle.std.specs.List.{list_any}
use Rattle.serde_json.specs.Events.{members_len, items_len}
use Rattle.serde_json.specs.View.{items_view, members_view}
use Rattle.serde_json.specs.declared.value.Value.{Value}

pub members_len_is : (es : List (String Global × Value)) → members_len (members_view es) ≡ length es
members_len_is [] = refl
members_len_is (e ∷ es) = ap suc (members_len_is es)

pub items_len_is : (vs : List Value) → items_len (items_view vs) ≡ length vs
items_len_is [] = refl
items_len_is (v ∷ vs) = ap suc (items_len_is vs)

-- the element at an index, and those after it
pub rest_from : {X : Type 0} (xs : List X) (i : ℕ) (x : X) → i < length xs → x ≡ get_or xs i x → drop i xs ≡ x ∷ drop (i + 1) xs
rest_from xs i x here is = drop-cons xs i x here ∙ ap (λ y. y ∷ drop (suc i) xs) (sym is) ∙ ap (λ n. x ∷ drop n xs) (sym (add-one i))

pub any-map : {X Y : Type 0} (test : Y → Bool) (f : X → Y) (xs : List X) → list_any (λ x. test (f x)) xs ≡ list_any test (map f xs)
any-map test f [] = refl
any-map test f (x ∷ xs) = ap (λ b. test (f x) || b) (any-map test f xs)
