-- How often the chains of a type can be asked before their end, whatever their closures answer.
use Rattle.std.specs.Prelude.{ℕ, ⊤}

-- A closure may return chains of the type to `flat_map_concat` if the type is limited: `limit` is then a bound for each of its chains.
pub record Bound (S : Type 0) : Type 1 where
  pub most_asks : S → ℕ
  pub IsLimited : Type 0
  pub limit : ℕ

-- an operator that is asked at most as often as its upstream, which `upstream` names
abbrev pub upstream_bound : {S C : Type 0} → (S → C) → Bound C → Bound S
upstream_bound upstream bound = record { most_asks = λ s. bound.most_asks (upstream s); IsLimited = bound.IsLimited; limit = bound.limit }

-- each chain of the type is asked at most `limit` times
abbrev pub limited_to : {S : Type 0} → ℕ → (S → ℕ) → Bound S
limited_to limit most = record { most_asks = most; IsLimited = ⊤; limit = limit }

-- each chain of the type has an end, but there is no bound for all of them
abbrev pub unlimited : {S : Type 0} → (S → ℕ) → Bound S
unlimited most = record { most_asks = most; IsLimited = ⊥; limit = 0 }
