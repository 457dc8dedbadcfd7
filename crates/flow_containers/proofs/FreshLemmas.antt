-- The fields of an empty list of subscribers are sound.
use Rattle.std.proofs.Common.{◌≡◌, ℕ, ◌+◌, ◌-◌, ◌<◌, List, [], length, replicate, get_or, Option, refl, sym, subst, ◌∙◌, ap, arith}
use Rattle.std.proofs.lemmas.List.{length-replicate, get_or-replicate}
use Rattle.flow_containers.specs.declared.members.Member.{Member}
use Rattle.flow_containers.specs.declared.members.enroll.Row.{Row}
use Rattle.flow_containers.specs.Subscribers.{Standing, subscribers_read, AreSound}

module _ {T A : Type 0} where
  sound_in : (window places : ℕ) (row : List ℕ) → 0 < window → places ≡ window + 1 → row ≡ replicate places 0 → AreSound {T = T} {A = A} window row 0 0 [] 0
  sound_in window places row some is are = record {
    some = some;
    fits = record {
      long = ap length are ∙ (length-replicate places 0 ∙ is);
      counts = λ r below. ap (λ l. get_or l r 0) are ∙ get_or-replicate places r 0 0 (subst (λ n. r < n) (sym is) below);
      window = tt;
    };
    floor = omega arith;
    count = omega arith;
    last = omega arith;
  }

  pub sound_fresh : (window emitted greatest : ℕ) (row : List ℕ) (members : List (Member (Row T A))) → 0 < window → row ≡ replicate (window + 1) 0 → emitted ≡ 0 → members ≡ [] → greatest ≡ 0
      → AreSound (length row - 1) row emitted 0 members greatest
  sound_fresh window emitted greatest row members some are none nobody least =
      let long : length row ≡ window + 1 = ap length are ∙ length-replicate (window + 1) 0 in
      let places : window ≡ length row - 1 = omega (arith, long) in
      subst (λ n. AreSound (length row - 1) row n 0 members greatest) (sym none)
      (subst (λ ms. AreSound (length row - 1) row 0 0 ms greatest) (sym nobody)
      (subst (λ n. AreSound {T = T} {A = A} (length row - 1) row 0 0 [] n) (sym least)
      (subst (λ n. AreSound {T = T} {A = A} n row 0 0 [] 0) places (sound_in window (window + 1) row some refl are))))

  pub standing_fresh : (window emitted greatest : ℕ) (row : List ℕ) (members : List (Member (Row T A))) (at : List (Option ℕ)) → row ≡ replicate (window + 1) 0 → emitted ≡ 0 → members ≡ [] → greatest ≡ 0
      → at ≡ [] → ◌≡◌ {A = Standing T} (record { list = subscribers_read 0 members; emitted = emitted; window = length row - 1; floor = 0; last = greatest; by_key = at })
      (record { list = []; emitted = 0; window = window; floor = 0; last = 0; by_key = [] })
  standing_fresh window emitted greatest row members at are none nobody least free =
      let long : length row ≡ window + 1 = ap length are ∙ length-replicate (window + 1) 0 in
      let places : length row - 1 ≡ window = omega (arith, long) in
      λ i. record { list = subscribers_read 0 (nobody i); emitted = none i; window = places i; floor = 0; last = least i; by_key = free i }
