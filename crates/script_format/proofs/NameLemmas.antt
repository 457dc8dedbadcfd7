-- The names that the reader keeps, and the lists of names of the definitions.
use Rattle.std.proofs.Common.{◌≡◌, ℕ, zero, suc, ◌+◌, ◌<◌, ◌≤◌, Bool, true, false, cond, ◌||◌, nat_lt, if◌then◌else◌, List, [], ◌∷◌, ◌++◌, map, length, get_or, drop, Option, None, Some, Result, Ok, Err, Bor, refl, sym, ap, subst, ◌∙◌, arith}
use borrow.Author.Tests.{true-ltb, false-ltb}
use Rattle.std.proofs.Math.ListN.{set, drop_of_length-le}
use Rattle.std.proofs.lemmas.List.{map-set}
use Rattle.std.specs.List.{list_any, position, position_from}
use Rattle.std.specs.Str.{bytes_eq}
use Rattle.std.proofs.lemmas.Iterator.Adapters.{position_from-zero}
use Rattle.script_chain_format.specs.declared.reading.fault.ScriptFault.TheVariants.{DuplicateName, UnknownName}
use Rattle.script_chain_format.specs.declared.reading.fault.ScriptFault.{ScriptFault}
use Rattle.script_chain_format.specs.Results.{Gives, or_fault}
use Rattle.script_format.specs.declared.names.FlowNames.{FlowNames}
use Rattle.script_format.specs.Checks.{NameLists, introduced, is_known, names_at, no_names, place_of}
use Rattle.script_format.specs.Names.{lists_of}
use Rattle.script_chain_format.proofs.ListLemmas.{rest_from}

pub list_any-map : {X Y : Type 0} (p : Y → Bool) (f : X → Y) (xs : List X) → list_any p (map f xs) ≡ list_any (λ x. p (f x)) xs
list_any-map p f [] = refl
list_any-map p f (x ∷ xs) = ap (λ b. p (f x) || b) (list_any-map p f xs)

position_from-map : {X Y : Type 0} (p : Y → Bool) (f : X → Y) (k : ℕ) (xs : List X) → position_from p k (map f xs) ≡ position_from (λ x. p (f x)) k xs
position_from-map p f k [] = refl
position_from-map p f k (x ∷ xs) = ap (λ r. cond (p (f x)) (Some k) r) (position_from-map p f (k + 1) xs)

position-map : {X Y : Type 0} (p : Y → Bool) (f : X → Y) (xs : List X) → position p (map f xs) ≡ position (λ x. p (f x)) xs
position-map p f xs = position_from-zero p (map f xs) ∙ position_from-map p f 0 xs ∙ sym (position_from-zero (λ x. p (f x)) xs)

pub position-found : {X Y : Type 0} (p : Y → Bool) (f : X → Y) (xs : List X) (found : Option ℕ) → found ≡ position (λ x. p (f x)) xs → position p (map f xs) ≡ found
position-found p f xs found is = position-map p f xs ∙ sym is

-- ---- the place of the first element that passes

pub position-here : {X Y : Type 0} (p : Y → Bool) (f : X → Y) (xs : List X) (i : ℕ) (x : X) (whole : Option ℕ) → i < length xs → x ≡ get_or xs i x → p (f x) ≡ true
    → position_from p i (map f (drop i xs)) ≡ whole → Some i ≡ whole
position-here p f xs i x whole here is passes before =
    sym (ap (λ t. cond t (Some i) (position_from p (i + 1) (map f (drop (i + 1) xs)))) passes) ∙ ap (λ l. position_from p i (map f l)) (sym (rest_from xs i x here is)) ∙ before

pub position-next : {X Y : Type 0} (p : Y → Bool) (f : X → Y) (xs : List X) (i : ℕ) (x : X) (whole : Option ℕ) → i < length xs → x ≡ get_or xs i x → p (f x) ≡ false
    → position_from p i (map f (drop i xs)) ≡ whole → position_from p (i + 1) (map f (drop (i + 1) xs)) ≡ whole
position-next p f xs i x whole here is fails before =
    sym (ap (λ t. cond t (Some i) (position_from p (i + 1) (map f (drop (i + 1) xs)))) fails) ∙ ap (λ l. position_from p i (map f l)) (sym (rest_from xs i x here is)) ∙ before

pub position-over : {X Y : Type 0} (p : Y → Bool) (f : X → Y) (xs : List X) (i : ℕ) (whole : Option ℕ) → length xs ≤ i → position_from p i (map f (drop i xs)) ≡ whole → None ≡ whole
position-over p f xs i whole over before = ap (λ l. position_from p i (map f l)) (sym (drop_of_length-le xs {i = i} over)) ∙ before

-- the names in borrowed texts
abbrev pub texts : List (Bor (List ℕ)) → List (List ℕ)
texts keys = map (λ k. k.now) keys

abbrev pub has_text : List ℕ → List (Bor (List ℕ)) → Bool
has_text name keys = list_any (λ k. bytes_eq name k.now) keys

pub known-is : (name : List ℕ) (emissions subscribers : List (Bor (List ℕ)))
    → is_known name (record { emissions = texts emissions; subscribers = texts subscribers }) ≡ (has_text name emissions || has_text name subscribers)
known-is name emissions subscribers =
    ap (λ b. b || list_any (λ known. bytes_eq name known) (texts subscribers)) (list_any-map (λ known. bytes_eq name known) (λ k. k.now) emissions)
    ∙ ap (λ b. has_text name emissions || b) (list_any-map (λ known. bytes_eq name known) (λ k. k.now) subscribers)

pub first-false : (a b : Bool) → (a || b) ≡ false → a ≡ false
first-false true b e = e
first-false false b e = refl

pub second-false : (a b : Bool) → (a || b) ≡ false → b ≡ false
second-false true b e = cc
second-false false b e = e

pub map-snoc : {X Y : Type 0} (f : X → Y) (xs : List X) (x : X) → map f (xs ++ x ∷ []) ≡ map f xs ++ f x ∷ []
map-snoc f [] x = refl
map-snoc f (y ∷ ys) x = ap (λ l. f y ∷ l) (map-snoc f ys x)

-- a name that is new is added at the end
pub added : (name : Bor (List ℕ)) (keys new : List (Bor (List ℕ))) → new ≡ (if has_text name.now keys then keys else keys ++ name ∷ []) → has_text name.now keys ≡ false
    → texts keys ++ name.now ∷ [] ≡ texts new
added name keys new is absent = sym (ap texts (is ∙ ap (λ b. if b then keys else keys ++ name ∷ []) absent) ∙ map-snoc (λ k. k.now) keys name)

-- ---- rows of names

names-at : (items : List FlowNames) (i : ℕ) (k : FlowNames) → i < length items → k ≡ get_or items i k → names_at i (map lists_of items) ≡ lists_of k
names-at [] i k here is = absurd (omega arith)
names-at (x ∷ xs) zero k here is = ap lists_of (sym is)
names-at (x ∷ xs) (suc i) k here is = names-at xs i k (omega arith) is

names-past : (items : List FlowNames) (i : ℕ) → length items ≤ i → names_at i (map lists_of items) ≡ no_names
names-past [] i past = refl
names-past (x ∷ xs) zero past = absurd (omega arith)
names-past (x ∷ xs) (suc i) past = names-past xs i (omega arith)

-- what is found of a name in a borrowed row: its place among the names of a kind, which `of` selects
pub found-there : (of : NameLists → List (List ℕ)) (at : ℕ) (name : List ℕ) (items lent : List FlowNames) (i : ℕ) (k : FlowNames) (result : Result ℕ ScriptFault) → lent ≡ items → true ≡ nat_lt i (length lent)
    → k ≡ get_or lent i k → Gives (or_fault (UnknownName at) (place_of name (of (lists_of k)))) result → Gives (or_fault (UnknownName at) (place_of name (of (names_at i (map lists_of items))))) result
found-there of at name items lent i k result same here is found =
    subst (λ names. Gives (or_fault (UnknownName at) (place_of name (of names))) result)
    (sym (names-at items i k (subst (λ l. i < length l) same (true-ltb i (length lent) here)) (is ∙ ap (λ l. get_or l i k) same))) found

pub no-names-there : (of : NameLists → List (List ℕ)) (at : ℕ) (name : List ℕ) (items lent : List FlowNames) (i : ℕ) → lent ≡ items → false ≡ nat_lt i (length lent)
    → or_fault (UnknownName at) (place_of name (of (names_at i (map lists_of items)))) ≡ or_fault (UnknownName at) (place_of name (of no_names))
no-names-there of at name items lent i same past =
    ap (λ (n : NameLists). or_fault (UnknownName at) (place_of name (of n))) (names-past items i (subst (λ l. length l ≤ i) same (false-ltb i (length lent) past)))

pub unknown-at : (name : List ℕ) (items : List FlowNames) (i : ℕ) (k : FlowNames) → i < length items → k ≡ get_or items i k
    → list_any (is_known name) (map lists_of items) ≡ false → is_known name (lists_of k) ≡ false
unknown-at name [] i k here is none = absurd (omega arith)
unknown-at name (x ∷ xs) zero k here is none = ap (λ n. is_known name (lists_of n)) is ∙ first-false (is_known name (lists_of x)) (list_any (is_known name) (map lists_of xs)) none
unknown-at name (x ∷ xs) (suc i) k here is none = unknown-at name xs i k (omega arith) is (second-false (is_known name (lists_of x)) (list_any (is_known name) (map lists_of xs)) none)

set-past : (items : List FlowNames) (i : ℕ) (p : NameLists) → length items ≤ i → set (map lists_of items) i p ≡ map lists_of items
set-past [] i p past = refl
set-past (x ∷ xs) zero p past = absurd (omega arith)
set-past (x ∷ xs) (suc i) p past = ap (λ l. lists_of x ∷ l) (set-past xs i p (omega arith))

pub introduced-again : (at : ℕ) (name : List ℕ) (row after : List NameLists) → list_any (is_known name) row ≡ true → introduced at name row after ≡ Err (DuplicateName at)
introduced-again at name row after known = ap (λ t. if t then Err (DuplicateName at) else Ok after) known

-- the names after a new name of the flow at a place, which `f` adds
pub added-at : (f : NameLists → NameLists) (at : ℕ) (name : List ℕ) (items : List FlowNames) (i : ℕ) (k new : FlowNames) → list_any (is_known name) (map lists_of items) ≡ false
    → i < length items → k ≡ get_or items i k → lists_of new ≡ f (lists_of k)
    → introduced at name (map lists_of items) (set (map lists_of items) i (f (names_at i (map lists_of items)))) ≡ Ok (map lists_of (set items i new))
added-at f at name items i k new none here is adds =
    let row = map lists_of items in
    ap (λ t. if t then Err (DuplicateName at) else Ok (set row i (f (names_at i row)))) none
    ∙ ap (λ n. Ok (set row i (f n))) (names-at items i k here is) ∙ ap (λ n. Ok (set row i n)) (sym adds) ∙ ap Ok (sym (map-set lists_of items i new))

pub added-past : (f : NameLists → NameLists) (items : List FlowNames) (i : ℕ) → length items ≤ i → set (map lists_of items) i (f (names_at i (map lists_of items))) ≡ map lists_of items
added-past f items i past = set-past items i (f (names_at i (map lists_of items))) past

-- ---- whether some flow has a name

pub known-next : (name : List ℕ) (items : List FlowNames) (i : ℕ) (k : FlowNames) (b : Bool) → i < length items → k ≡ get_or items i k → is_known name (lists_of k) ≡ b
    → list_any (is_known name) (map lists_of (drop i items)) ≡ (b || list_any (is_known name) (map lists_of (drop (i + 1) items)))
known-next name items i k b here is found =
    ap (λ l. list_any (is_known name) (map lists_of l)) (rest_from items i k here is) ∙ ap (λ t. t || list_any (is_known name) (map lists_of (drop (i + 1) items))) found

pub known-past : (name : List ℕ) (items : List FlowNames) (i : ℕ) → length items ≤ i → list_any (is_known name) (map lists_of (drop i items)) ≡ false
known-past name items i past = ap (λ l. list_any (is_known name) (map lists_of l)) (drop_of_length-le items {i = i} past)
