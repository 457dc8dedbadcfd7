-- How nodes and their parts are read from the words of a table.
use Rattle.std.proofs.Common.{◌≡◌, ℕ, suc, zero, ◌+◌, ◌-◌, ◌<◌, ◌≤◌, List, [], ◌∷◌, ◌++◌, length, map, take, drop, Some, refl, sym, ap, ◌∙◌, arith}
use Rattle.std.specs.Prelude.{slice_get}
use Rattle.std.specs.Option.{option_map}
use Rattle.std.proofs.lemmas.List.{length-map, append_assoc, append-nil}
use Rattle.std.proofs.lemmas.Option.{slice_get-map}
use Rattle.flow_check.specs.Words.{parts_in_words}
use Rattle.flow_check.specs.Tables.{Packed, node_of, nodes_of}

module _ {S : Type 0} (read : S → List ℕ → S) where
  -- the node whose words begin there
  pub node_there : (first : S) (callers : ℕ) (words begins : List ℕ) (k begin : ℕ) → slice_get begins k ≡ Some begin
      → slice_get (nodes_of read (record { first = first; callers = callers; rows = map (λ b. drop b words) begins })) k ≡ Some (node_of read first callers (drop begin words))
  node_there first callers words begins k begin e =
      slice_get-map (node_of read first callers) (map (λ b. drop b words) begins) k
      ∙ ap (option_map (node_of read first callers)) (slice_get-map (λ b. drop b words) begins k ∙ ap (option_map (λ b. drop b words)) e)

  -- a node with the state and the counts that words say
  pub same_node : (first : S) (callers : ℕ) (words : List ℕ) (state : S) (placed : List ℕ) → state ≡ read first (drop callers words) → placed ≡ take callers words
      → Some (node_of read first callers words) ≡ Some (record { state = state; placed = placed })
  same_node first callers words state placed e f = λ i. Some (record { state = sym e i; placed = sym f i })

  pub nodes_within : (table : Packed S) (bound : ℕ) → length table.rows ≤ bound → length (nodes_of read table) ≤ bound
  nodes_within table bound upto = let count = length-map table.rows (node_of read table.first table.callers) in omega arith

module _ {A : Type 0} (part : List ℕ → A) (others : List ℕ → List ℕ) where
  parts_next : (count i : ℕ) (rest : List ℕ) → i < count → parts_in_words part others (count - i) rest ≡ part rest ∷ parts_in_words part others (count - (i + 1)) (others rest)
  parts_next count i rest low =
      let more : count - i ≡ suc (count - (i + 1)) = omega arith in ap (λ (n : ℕ). parts_in_words part others n rest) more

  pub parts_more : (count i : ℕ) (rest later : List ℕ) (xs ys : List A) (x : A) (all : List A) → i < count → xs ++ parts_in_words part others (count - i) rest ≡ all
      → ys ≡ xs ++ x ∷ [] → x ≡ part rest → later ≡ others rest → ys ++ parts_in_words part others (count - (i + 1)) later ≡ all
  parts_more count i rest later xs ys x all low whole grown read behind =
      ap (λ (zs : List A). zs ++ parts_in_words part others (count - (i + 1)) later) grown
      ∙ append_assoc xs (x ∷ []) (parts_in_words part others (count - (i + 1)) later)
      ∙ ap (λ (r : List ℕ). xs ++ x ∷ parts_in_words part others (count - (i + 1)) r) behind
      ∙ ap (λ (y : A). xs ++ y ∷ parts_in_words part others (count - (i + 1)) (others rest)) read
      ∙ ap (λ (zs : List A). xs ++ zs) (sym (parts_next count i rest low))
      ∙ whole

  pub parts_begun : (count : ℕ) (words : List ℕ) (xs : List A) → xs ≡ [] → xs ++ parts_in_words part others (count - 0) words ≡ parts_in_words part others count words
  parts_begun count words xs none =
      let all : count - 0 ≡ count = omega arith in
      ap (λ (zs : List A). zs ++ parts_in_words part others (count - 0) words) none ∙ ap (λ (n : ℕ). parts_in_words part others n words) all

  pub parts_done : (count i : ℕ) (rest : List ℕ) (xs all : List A) → count ≤ i → xs ++ parts_in_words part others (count - i) rest ≡ all → xs ≡ all
  parts_done count i rest xs all upto whole =
      let none : count - i ≡ 0 = omega arith in
      sym (append-nil xs) ∙ sym (ap (λ (n : ℕ). xs ++ parts_in_words part others n rest) none) ∙ whole
