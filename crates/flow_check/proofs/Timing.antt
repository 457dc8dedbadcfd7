-- In a well-timed record an earlier call of a caller is over no later than a later one.
use Rattle.std.proofs.Common.{◌≡◌, ℕ, suc, zero, ◌+◌, ◌-◌, ◌<◌, ◌≤◌, true, false, ◌==◌, ◌&&◌, length, Option, Some, None, refl, sym, ◌∙◌, subst, inl, inr, arith, add-zero}
use Rattle.std.specs.Prelude.{slice_get, nat_lt, nat_le, Vec}
use Rattle.std.specs.declared.alloc.Global.{Global}
use Rattle.std.proofs.lemmas.Bool.{false≢true, or_cases, and_parts}
use Rattle.std.proofs.lemmas.Bool.Decides.{Decides-eqb, Decides-ltb, leb_tells}
use Rattle.std.proofs.lemmas.Option.{slice_get_within, slice_get-get_or}
use Rattle.flow_check.specs.declared.timed.Timed.{Timed}
use Rattle.flow_check.specs.Records.{CallsByCaller, call_in, recorded, is_over_before, is_over_by, is_same_end, may_follow, IsWellTimed}

-- this end is no later than that one, if there is that one
abbrev pub IsOverWith : Option ℕ → Option ℕ → Type 0
IsOverWith one other = ((moment : ℕ) → is_over_before other moment ≡ true → is_over_before one moment ≡ true) × (one ≡ None → other ≡ None)

le_of : (a b : ℕ) → nat_le a b ≡ true → a ≤ b
le_of a b h = elim (leb_tells a b) [ inl e ↦ e.1 | inr e ↦ absurd (false≢true (sym e.0 ∙ h)) ]

not_before : (a b : ℕ) → nat_lt a b ≡ false → b ≤ a
not_before a b h = elim (leb_tells b a) [ inl e ↦ e.1 | inr e ↦ absurd (false≢true (sym h ∙ (Decides-ltb a b).1 e.1)) ]

over_by : (one other : Option ℕ) (begin : ℕ) → is_over_by one begin ≡ true → is_over_before other begin ≡ false → IsOverWith one other
over_by None other begin h f = absurd (false≢true h)
over_by (Some a) None begin h f = (λ moment k. absurd (false≢true k), λ k. refl)
over_by (Some a) (Some b) begin h f =
    let low = le_of a begin h in
    let high = not_before b begin f in
    (λ moment k. let late = (Decides-ltb b moment).0 k in (Decides-ltb a moment).1 (omega arith), λ k. absurd (cc))

same_end : (one other : Option ℕ) → is_same_end one other ≡ true → IsOverWith one other
same_end None None h = (λ moment k. k, λ k. refl)
same_end (Some a) (Some b) h = let e = (Decides-eqb a b).0 h in (λ moment k. subst (λ (x : ℕ). nat_lt x moment ≡ true) (sym e) k, λ k. absurd (cc))
same_end None (Some b) h = absurd (false≢true h)
same_end (Some a) None h = absurd (false≢true h)

module _ {C : Type 0} where
  follows : (c d : Timed C) → may_follow c d ≡ true → is_over_before d.end d.begin ≡ false → IsOverWith c.end d.end
  follows c d h f = elim (or_cases (is_over_by c.end d.begin) ((c.begin == d.begin) && is_same_end c.end d.end) h) [
    | inl e ↦ over_by c.end d.end d.begin e f
    | inr e ↦ same_end c.end d.end (and_parts (c.begin == d.begin) (is_same_end c.end d.end) e).1
  ]

module _ {C : Type 0} (callers : CallsByCaller C) where
  before_in : (o : Option (Vec (Timed C) Global)) (k : ℕ) (d : Timed C) → call_in o (k + 1) ≡ Some d → (c : Timed C) × (call_in o k ≡ Some c)
  before_in None k d h = absurd (cc)
  before_in (Some calls) k d h =
      let near = slice_get_within calls.items (k + 1) d h in
      let low : k < length calls.items = omega arith in
      (_, slice_get-get_or calls.items k d low)

  -- a caller's call has its earlier ones before it
  earlier_by : IsWellTimed callers → (caller j k : ℕ) (d : Timed C) → recorded callers caller (k + j) ≡ Some d
      → (c : Timed C) × (recorded callers caller k ≡ Some c) × IsOverWith c.end d.end
  earlier_by well caller zero k d h = (d, subst (λ (n : ℕ). recorded callers caller n ≡ Some d) (add-zero k) h, (λ moment e. e, λ e. e))
  earlier_by well caller (suc j) k d h =
      let next : k + suc j ≡ (k + j) + 1 = omega arith in
      let here = subst (λ (n : ℕ). recorded callers caller n ≡ Some d) next h in
      let one = before_in (slice_get callers caller) (k + j) d here in
      let with = follows one.0 d ((well caller (k + j) one.0 one.1).1 d here) (well caller ((k + j) + 1) d here).0 in
      let more = earlier_by well caller j k one.0 one.1 in
      (more.0, more.1, (λ moment e. more.2.0 moment (with.0 moment e), λ e. with.1 (more.2.1 e)))

  pub earlier : IsWellTimed callers → (caller k n : ℕ) (d : Timed C) → k ≤ n → recorded callers caller n ≡ Some d
      → (c : Timed C) × (recorded callers caller k ≡ Some c) × IsOverWith c.end d.end
  earlier well caller k n d low h = earlier_by well caller (n - k) k d (subst (λ (m : ℕ). recorded callers caller m ≡ Some d) (omega arith) h)
