-- Making the token of a new subscriber that has a place, through the holder of the lock bit, keeps the rule of the table.
use Rattle.std.proofs.Common.{◌≡◌, ◌≢◌, ℕ, ◌<◌, List, [], ◌∷◌, ◌++◌, map, length, set, Option, Some, None, refl, sym, ap, ◌∙◌, subst, inl, inr, le_refl, arith}
use Rattle.std.specs.Option.{option_map}
use Rattle.std.proofs.lemmas.List.{get_or-set_same, get_or-set_other, length-set}
use mathlib.Core.Logic.{dite}
use mathlib.Core.Option.{some}
use native.Mathlib.Decide.{ℕ_discrete}
use lib.ListN.{get_elem?}
use Rattle.atomic_table.specs.Table.{State, Splits}
use Rattle.atomic_table.proofs.Lists.{set_here}
use Rattle.flow_law.specs.declared.states.SharedFlowState.{SharedFlowState}
use Rattle.flow_law.specs.history.Growth.{child}
use Rattle.flow_law.specs.history.Seats.{SeatAt, SeatsFit}
use Rattle.flow_law.proofs.Names.{makes_fits, child_fits}
use Rattle.flow_law.proofs.SeatLemmas.{changed, made, at_only}
use Rattle.flow_word_shared.specs.declared.view.RingKnown.{RingKnown}
use Rattle.flow_word_shared.specs.declared.view.Taken.{Taken}
use Rattle.flow_word_shared.specs.declared.view.Post.{Post}
use Rattle.flow_word_shared.specs.declared.view.Hold.{Hold}
use Rattle.flow_word_shared.specs.declared.view.Reads.{Reads}
use Rattle.flow_word_shared.specs.declared.view.RingStart.{RingStart}
use Rattle.flow_word_shared.specs.Rule.{PlaceOwner, owner_at, IsOwned, PlacesFit, Hidden, WordsFit, IsTaken, HoldFits, PostFits, ReadsFit, IsFine, RingHolds}
use Rattle.flow_word_shared.specs.View.{ring_known, only, hands_over, handed_over, reads_of_number, reads_of_taken, reads_of_hold}
use Rattle.flow_word_shared.proofs.ConfirmSteps.{set-set, there}
use Rattle.flow_word_shared.proofs.PlaceMoves.{owner_name}
use Rattle.flow_word_shared.proofs.Keeps.{no_other, now, started, fits_at, hold_at, found_at}

-- the owner of a place is the same subscriber under another name
module _ {T : Type 0} (start : RingStart) (s : SharedFlowState T) (owners : List (Option PlaceOwner)) (words : List ℕ) (i number : ℕ) (a b : List ℕ) (own : owner_at owners i ≡ Some (record { name = a; number = number }))
    (within : i < length owners) where
  abbrev pub renamed : List (Option PlaceOwner)
  renamed = set owners i (Some (record { name = b; number = number }))

  pub renamed_here : owner_at renamed i ≡ Some (record { name = b; number = number })
  renamed_here = get_or-set_same owners i (Some (record { name = b; number = number })) None within

  pub renamed_other : (j : ℕ) → j ≢ i → owner_at renamed j ≡ owner_at owners j
  renamed_other j ne = get_or-set_other owners i j (Some (record { name = b; number = number })) None ne

  owned_then : (j u : ℕ) → IsOwned u (owner_at owners j) → IsOwned u (owner_at renamed j)
  owned_then j u of = dite (ℕ_discrete j i)
      (λ e. subst (IsOwned u) (sym (ap (owner_at renamed) e ∙ renamed_here)) (subst (IsOwned u) (ap (owner_at owners) e ∙ own) of))
      (λ ne. subst (IsOwned u) (sym (renamed_other j ne)) of)

  owned_back : (j u : ℕ) → IsOwned u (owner_at renamed j) → IsOwned u (owner_at owners j)
  owned_back j u of = dite (ℕ_discrete j i)
      (λ e. subst (IsOwned u) (sym (ap (owner_at owners) e ∙ own)) (subst (IsOwned u) (ap (owner_at renamed) e ∙ renamed_here) of))
      (λ ne. subst (IsOwned u) (renamed_other j ne) of)

  pub places_renamed : PlacesFit start s owners words → PlacesFit start s renamed words
  places_renamed f = record {
    owned = length-set owners i (Some (record { name = b; number = number })) ∙ f.owned;
    covers = λ some u p at. let c = f.covers some u p at in (c.0, c.1, owned_then c.0 u c.2, c.3);
    present = λ j less shown even. let c = f.present j less shown even in (c.0, c.1, owned_then j c.0 c.2, c.3, c.4);
    free = λ j less none. dite (ℕ_discrete j i)
        (λ e. let no : ◌≡◌ {A = Option PlaceOwner} None (Some (record { name = a; number = number })) = sym (f.free j less none) ∙ (ap (owner_at owners) e ∙ own) in absurd (cc))
        (λ ne. renamed_other j ne ∙ f.free j less none);
    apart = λ j k u x y one two. f.apart j k u x y (owned_back j u one) (owned_back k u two);
    issued = λ j u less of. f.issued j u less (owned_back j u of);
    each = f.each;
  }

  post_renamed : (y : List ℕ) (n p : ℕ) (post : Option Post) → a ≢ y → PostFits start owners words y n p post → PostFits start renamed words y n p post
  post_renamed y n p None ne f = tt
  post_renamed y n p (Some post) ne f = (f.0, renamed_other post.place (λ e. absurd (ne (owner_name a y number n (sym own ∙ (ap (owner_at owners) (sym e) ∙ f.1))))) ∙ f.1, f.2)

  -- what another token knows of its own place
  pub reads_renamed : (y : List ℕ) (reads : Option Reads) → a ≢ y → ReadsFit start owners words y reads → ReadsFit start renamed words y reads
  reads_renamed y None ne f = tt
  reads_renamed y (Some x) ne f = post_renamed y x.number x.position x.post ne f

module _ (T : Type 0) (packs : List ℕ → Type 0) (value_of : List ℕ → T) (start : RingStart) where
  abbrev V : Type 0
  V = List (RingKnown T)

  abbrev Rule : State Unit V → Type 0
  Rule = RingHolds packs value_of start

  -- the holder, which has no place any more
  abbrev without_place : RingKnown T → RingKnown T
  without_place z = ring_known z.knows z.start (option_map (λ (h : Hold). record h { taken = None }) z.hold) None

  pub handing_over : (id : ℕ) (v : V) (h : Hold) (t : Taken) (number : ℕ) → v ≡ only v ∷ [] → (only v).hold ≡ Some h → h.taken ≡ Some t → t.number ≡ Some number → Splits Rule id v (map hands_over v) (map handed_over v)
  handing_over id v h t number is has took counted s r at = record {
    starts = r.starts;
    history = r.history;
    is_history = r.is_history;
    timed = r.timed;
    owner = r.owner;
    hidden = hidden';
    words = fit;
    seats = subst (λ (l : List V). SeatsFit (λ (v : V). v) (λ (x : RingKnown T). x.knows) (IsFine start r.history r.owner hidden' s.words) (l ++ map handed_over v ∷ [])) (set-set s.views id (without_place x ∷ []) (map hands_over v))
        (made (λ (v : V). v) (λ (x : RingKnown T). x.knows) (IsFine start r.history r.owner hidden' s.words) (set s.views id (without_place x ∷ [])) id (without_place x ∷ []) (map hands_over v) (map handed_over v) (without_place x) (hands_over x) (handed_over x)
        refl (ap (λ (l : V). map hands_over l) is) (ap (λ (l : V). map handed_over l) is) refl refl
        (makes_fits x.knows r.history (fits_at T packs value_of start s r id v is at), began, holds, tt)
        (child_fits x.knows r.history (fits_at T packs value_of start s r id v is at), began, tt, posts)
        (set_here s.views id (without_place x ∷ []) (there s.views id v at)) cleared);
  }
    where
      x : RingKnown T
      x = only v

      name : List ℕ
      name = x.knows.name

      new_name : List ℕ
      new_name = (child x.knows).name

      st : SharedFlowState T
      st = now T packs value_of start r.history

      f : HoldFits start st r.owner r.hidden s.words name (Some h)
      f = hold_at T packs value_of start s r id v h is at has

      taken : IsTaken start r.hidden.owners s.words name (Some t)
      taken = subst (IsTaken start r.hidden.owners s.words name) took f.6.taken

      own : owner_at r.hidden.owners t.place ≡ Some (record { name = name; number = number })
      own = taken.1 ∙ ap (option_map (λ (n : ℕ). record { name = name; number = n })) counted

      within : t.place < length r.hidden.owners
      within = let owned = r.words.places.owned in let less = taken.0 in omega (arith, owned, less)

      hidden' : Hidden
      hidden' = record { ahead = r.hidden.ahead; owners = renamed start st r.hidden.owners s.words t.place number name new_name own within }

      began : x.start ≡ start
      began = started T packs value_of start s r id v is at

      fit : WordsFit packs value_of start st r.owner hidden' s.words
      fit = let w = r.words in record {
        count = w.count;
        word0 = w.word0;
        few = w.few;
        made = w.made;
        live = w.live;
        mark = w.mark;
        cells = w.cells;
        rested = w.rested;
        places = places_renamed start st r.hidden.owners s.words t.place number name new_name own within w.places;
      }

      holds : HoldFits start st r.owner hidden' s.words name (option_map (λ (h : Hold). record h { taken = None }) x.hold)
      holds = subst (λ o. HoldFits start st r.owner hidden' s.words name (option_map (λ (h : Hold). record h { taken = None }) o)) (sym has)
          (f.0, f.1, f.2, f.3, f.4, f.5, record { low = f.6.low; checked = f.6.checked; taken = tt; filled = f.6.filled })

      reads_are : reads_of_hold x.hold ≡ reads_of_number t (Some number)
      reads_are = ap reads_of_hold has ∙ (ap reads_of_taken took ∙ ap (reads_of_number t) counted)

      posts : ReadsFit start hidden'.owners s.words new_name (reads_of_hold x.hold)
      posts = subst (ReadsFit start hidden'.owners s.words new_name) (sym reads_are)
          (taken.0, renamed_here start st r.hidden.owners s.words t.place number name new_name own within, (let word = taken.2 in omega (arith, word)))

      place : SeatAt (λ (v : V). v) s.views id 0 x
      place = found_at T packs value_of start s id v is at

      mine : (k : ℕ) (z : RingKnown T) → get_elem? v k ≡ some z → IsFine start r.history r.owner hidden' s.words (without_place z)
      mine k z p = let same : x ≡ z = (at_only x z k (subst (λ (l : V). get_elem? l k ≡ some z) is p)).1 in
          subst (λ (q : RingKnown T). IsFine start r.history r.owner hidden' s.words (without_place q)) same (fits_at T packs value_of start s r id v is at, began, holds, tt)

      rest : (j k : ℕ) (z : RingKnown T) → j ≢ id → SeatAt (λ (v : V). v) s.views j k z → IsFine start r.history r.owner hidden' s.words z
      rest j k z ne p =
          let g = r.seats.fine j k z p in let other = (r.seats.apart id 0 j k x z place p (inl (λ q. ne (sym q)))).0 in (
            g.0,
            g.1,
            no_other start st st r.owner r.owner r.hidden hidden' s.words s.words name z.knows.name z.hold other (inr f.0) g.2,
            reads_renamed start st r.hidden.owners s.words t.place number name new_name own within z.knows.name z.reads other g.3,
          )

      cleared : SeatsFit (λ (v : V). v) (λ (x : RingKnown T). x.knows) (IsFine start r.history r.owner hidden' s.words) (set s.views id (without_place x ∷ []))
      cleared = changed (λ (v : V). v) (λ (x : RingKnown T). x.knows) (IsFine start r.history r.owner hidden' s.words) without_place (λ _. refl) (λ z. le_refl z.knows.made) s.views id v (without_place x ∷ []) at
          (ap (λ (l : V). map without_place l) (sym is)) mine rest r.seats.apart
