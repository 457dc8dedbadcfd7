-- What a checker of shared flows does with its queue, and with lists of own first values.
use Rattle.std.proofs.Common.{◌≡◌, ℕ, suc, ◌<◌, true, false, cond, List, [], ◌∷◌, length, refl, sym, ap, ◌∙◌, inl, inr, ◌==◌, arith}
use Rattle.std.specs.Cmp.Derive.{both_true}
use Rattle.std.proofs.lemmas.Bool.{false≢true, cond-true, cond-false, and_parts}
use Rattle.std.proofs.lemmas.Bool.Decides.{eqb_tells}
use Rattle.flow_check.specs.declared.shared_machine.Held.{Held}
use Rattle.flow_check.specs.SharedMachine.{Kept, is_kept_blocked, append_kept, admit_kept, settle_kept, same_values, own_left}

-- what is queued already makes no difference
admit_anew : (s : Kept) (q r : List Held) → admit_kept (record s { queue = r }) q ≡ admit_kept s q
admit_anew s [] r = refl
admit_anew s (h ∷ q) r = ap (λ (t : Kept). cond (is_kept_blocked s) (record s { queue = h ∷ q }) t) (admit_anew (append_kept h.caller h.value s) q r)

pub admitted_first : (s : Kept) (h : Held) (q : List Held) → is_kept_blocked s ≡ false → s.queue ≡ h ∷ q → settle_kept (append_kept h.caller h.value (record s { queue = q })) ≡ settle_kept s
admitted_first s h q free e =
    admit_anew (append_kept h.caller h.value s) q q
    ∙ sym (cond-false (is_kept_blocked s) (record s { queue = h ∷ q }) (admit_kept (append_kept h.caller h.value s) q) free)
    ∙ sym (ap (admit_kept s) e)

admit_blocked : (s : Kept) (q : List Held) → is_kept_blocked s ≡ true → s.queue ≡ q → admit_kept s q ≡ s
admit_blocked s [] full e = ap (λ (r : List Held). record s { queue = r }) (sym e)
admit_blocked s (h ∷ q) full e = cond-true (is_kept_blocked s) (record s { queue = h ∷ q }) (admit_kept (append_kept h.caller h.value s) q) full ∙ ap (λ (r : List Held). record s { queue = r }) (sym e)

pub settled_blocked : (s : Kept) → is_kept_blocked s ≡ true → settle_kept s ≡ s
settled_blocked s full = admit_blocked s s.queue full refl

pub settled_empty : (s : Kept) → s.queue ≡ [] → settle_kept s ≡ s
settled_empty s e = ap (admit_kept s) e ∙ ap (λ (r : List Held). record s { queue = r }) (sym e)

-- ---- own first values

pub eqb_same : (n : ℕ) → (n == n) ≡ true
eqb_same n = elim (eqb_tells n n) [ inl e ↦ e.0 | inr e ↦ absurd (e.1 refl) ]

pub eqb_is : (m n : ℕ) → (m == n) ≡ true → m ≡ n
eqb_is m n h = elim (eqb_tells m n) [ inl e ↦ e.1 | inr e ↦ absurd (false≢true (sym e.0 ∙ h)) ]

pub values_same : (vs : List ℕ) → same_values vs vs ≡ true
values_same [] = refl
values_same (v ∷ vs) = both_true (eqb_same v) (values_same vs)

pub values_are : (vs ws : List ℕ) → same_values vs ws ≡ true → vs ≡ ws
values_are [] [] h = refl
values_are (v ∷ vs) (w ∷ ws) h =
    let both = and_parts (v == w) (same_values vs ws) h in
    ap (λ (x : ℕ). x ∷ vs) (eqb_is v w both.0) ∙ ap (λ (xs : List ℕ). w ∷ xs) (values_are vs ws both.1)
values_are [] (w ∷ ws) h = absurd (false≢true h)
values_are (v ∷ vs) [] h = absurd (false≢true h)

-- lists of the same length are the same if each of their lists is
pub owns_same : (xs ys : List (List ℕ)) → length xs ≡ length ys → ((k : ℕ) → k < length xs → own_left k xs ≡ own_left k ys) → xs ≡ ys
owns_same [] [] e h = refl
owns_same [] (y ∷ ys) e h = absurd (cc)
owns_same (x ∷ xs) [] e h = absurd (cc)
owns_same (x ∷ xs) (y ∷ ys) e h =
    let first : x ≡ y = h 0 (omega arith) in
    let count : length xs ≡ length ys = omega arith in
    ap (λ (z : List ℕ). z ∷ xs) first ∙ ap (λ (l : List (List ℕ)). y ∷ l) (owns_same xs ys count (λ k l. h (suc k) (omega arith)))

-- ---- states

-- states with the same fields are the same
pub kept_same : (a b : Kept) → a.config ≡ b.config → a.values ≡ b.values → a.cached ≡ b.cached → a.lags ≡ b.lags → a.owns ≡ b.owns → a.queue ≡ b.queue → a.offered ≡ b.offered → a ≡ b
kept_same a b config values cached lags owns queue offered = λ i. record {
  config = config i;
  values = values i;
  cached = cached i;
  lags = lags i;
  owns = owns i;
  queue = queue i;
  offered = offered i;
}
