-- Facts of all steps: `takes-along` carries them to other states, `always-takes` says what holds of the result, and `takes-plays`
-- that calls which answer by a function lead to what `plays` gives.
use Rattle.std.proofs.Common.{◌≡◌, ◌⊎◌, inl, inr, sym, refl, ap, ◌∙◌, subst}
use Rattle.flow_law.specs.sharing.Steps.{Steps, answers, calls, After, Takes, plays}

module _ {C : Type 0} {Answer : C → Type 0} {Res : Type 0} where
  -- if each call does the same to the states on the other side, the steps do the same
  pub takes-along : {S U : Type 0} (does : (c : C) → S → Answer c → S → Type 0) (does' : (c : C) → U → Answer c → U → Type 0)
      (Stands : S → U → Type 0)
      → ((c : C) (s t : S) (a : Answer c) (u : U) → Stands s u → does c s a t → (v : U) × Stands t v × does' c u a v)
      → (steps : Steps C Answer Res) (s t : S) (u : U) (r : Res) → Stands s u → Takes does steps s r t
      → (v : U) × Stands t v × Takes does' steps u r v
  takes-along does does' Stands along (answers e) s t u r stands h =
      (u, subst (λ x. Stands x u) (sym h.1) stands, (h.0, refl))
  takes-along does does' Stands along (calls c next) s t u r stands h =
      let one = along c s h.1 h.0 u stands h.2 in
      let rest = takes-along does does' Stands along (next h.0) h.1 t one.0 r one.1 h.3 in
      (rest.0, rest.1, (h.0, one.0, one.2, rest.2))

-- ---- what follows from the answers

module _ {C : Type 0} {Answer : C → Type 0} {Res : Type 0} where
  -- for all answers that `May` allows, `Is` holds of the result
  abbrev pub Always : ((c : C) → Answer c → Type 0) → (Res → Type 0) → Steps C Answer Res → Type 0
  Always May Is (answers r) = Is r
  Always May Is (calls c next) = (a : Answer c) → May c a → Always May Is (next a)

  -- an answer that lacks something leads to a result that shows it
  abbrev pub Tells : ((c : C) → Answer c → Type 0) → (Res → Type 0) → Steps C Answer Res → Type 0
  Tells Lacks Is (answers r) = Unit {0}
  Tells Lacks Is (calls c next) = (a : Answer c) → (Lacks c a → Always (λ c a. Unit {0}) Is (next a)) × Tells Lacks Is (next a)

module _ {C : Type 0} {Answer : C → Type 0} {Res S : Type 0} (does : (c : C) → S → Answer c → S → Type 0) where
  pub always-takes : (May : (c : C) → Answer c → Type 0) (Is : Res → Type 0) → ((c : C) (s t : S) (a : Answer c) → does c s a t → May c a)
      → (steps : Steps C Answer Res) (s t : S) (r : Res) → Always May Is steps → Takes does steps s r t → Is r
  always-takes May Is may (answers e) s t r is h = subst Is (sym h.0) is
  always-takes May Is may (calls c next) s t r is h =
      always-takes May Is may (next h.0) h.1 t r (is h.0 (may c s h.1 h.0 h.2)) h.3

  -- if each call answers by a function or lacks something, the steps lead to what `plays` gives, or the result shows what lacked
  pub takes-plays : (reply : (c : C) → S → After (Answer c) S) (Lacks : (c : C) → Answer c → Type 0) (Is : Res → Type 0)
      → ((c : C) (s t : S) (a : Answer c) → does c s a t → (reply c s ≡ record { result = a; state = t }) ⊎ Lacks c a)
      → (steps : Steps C Answer Res) (s t : S) (r : Res) → Tells Lacks Is steps → Takes does steps s r t
      → (plays reply steps s ≡ record { result = r; state = t }) ⊎ Is r
  takes-plays reply Lacks Is either (answers e) s t r tells h =
      inl (ap (λ x. record { result = x; state = s }) (sym h.0) ∙ ap (λ x. record { result = r; state = x }) (sym h.1))
  takes-plays reply Lacks Is either (calls c next) s t r tells h =
      elim (either c s h.1 h.0 h.2) [
        | inl is ↦ elim (takes-plays reply Lacks Is either (next h.0) h.1 t r (tells h.0).1 h.3) [
          | inl so ↦ inl (ap (λ (x : After (Answer c) S). plays reply (next x.result) x.state) is ∙ so)
          | inr told ↦ inr told
        ]
        | inr lacks ↦ inr (always-takes (λ c a. Unit {0}) Is (λ c s t a d. tt) (next h.0) h.1 t r ((tells h.0).0 lacks) h.3)
      ]
