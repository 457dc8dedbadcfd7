use Rattle.std.proofs.Common.{rules, ◌≡◌, ℕ, ◌<◌, true, false, [], ◌∷◌, Option, Some, None, refl, sym, ap, subst, ◌∙◌, inl, inr, arith}
use Rattle.flow_law.specs.declared.call.SharedCall.TheVariants as call
use Rattle.flow_law.specs.declared.call.SharedReply.TheVariants as reply
use Rattle.flow_law.specs.flow.SharedHistory.{shared_flow}
use Rattle.flow_law.specs.history.Promise.{CallsAtOnceIn}
use Rattle.flow_law.specs.history.Tokens.{token}
use Rattle.flow_word_shared.specs.declared.view.Post.{Post}
use Rattle.flow_word_shared.specs.declared.view.Reads.{Reads}
use Rattle.flow_word_shared.specs.declared.view.RingStart.{RingStart}
use Rattle.flow_word_shared.specs.Rule.{place_at}
use Rattle.flow_word_shared.specs.Steps.{MeOf, IsAt}
use Rattle.flow_word_shared.specs.Tokens.{WordFlowToken, post_of, word_flow_id, ring_token, HasPlaceOrNone}
use Rattle.flow_word_shared.specs.View.{began_as, only, ring_known, reading_at}
use Rattle.flow_word_shared.proofs.PlaceRule.{word_below}
use Rattle.flow_word_shared.proofs.FreeSteps.{freeing}
use Rattle.flow_word_shared.proofs.PostSteps.{flagging}
use Rattle.flow_word_shared.proofs.LeaveSteps.{leaving}
use Rattle.flow_word_shared.proofs.Told.{told_calls}
use Rattle.flow_word_shared.proofs.token.WordFlow.leave.Goals as goal

-- what the seat knows as the subscriber's
abbrev mine : (post : Option Post) (number position : ℕ) → Reads
mine post number position = reading_at post number position []

pub store-requires : goal.store-requires
store-requires g c =
    let key = c.self.inside.table.shared.key in let hp = (subst (λ o. HasPlaceOrNone o c.args.seat.now 0) c.in-Some.is c.requires.subscribed.1).0 in let r = c.requires.subscribed.0 in
    let start = ap (λ z. z.start) c.requires.flow ∙ ap (λ z. z.table_id.start) (sym c.self.view_is) in
    let at = hp.word ∙ ap (λ (z : RingStart). place_at z hp.at) start in let below = word_below key hp.at (subst (λ (z : RingStart). hp.at < z.places) start hp.there) in let count = c.self.invariant.14 in (
      ap (λ z. z.table) c.requires.flow ∙ ap (λ z. z.table_id.table) (sym c.self.view_is),
      omega (arith, at, below, count),
      flagging _ _ _ _ _ _ _ true (mine (post_of c.args.seat.now) c.args.number c.args.position) (record { place = hp.at; moves = false }) _ _ (ap (λ m. m.0) r.0.0) r.1 hp.post at (omega arith) (λ e. absurd (cc)),
    )

pub fetch_sub-requires : goal.fetch_sub-requires
fetch_sub-requires g c =
    let hp = (subst (λ o. HasPlaceOrNone o c.args.seat.now 0) c.in-Some.is c.requires.subscribed.1).0 in let r = c.requires.subscribed.0 in
    let x = mine (post_of c.args.seat.now) c.args.number c.args.position in let post : Post = record { place = hp.at; moves = false } in let leaves : Post = record { place = hp.at; moves = true } in
    let told = c.store.ensures.2 x post r.1 hp.post in (
      search rules,
      search rules,
      leaving _ _ _ _ _ _ _ (mine (Some leaves) c.args.number c.args.position) (subst (λ (m : MeOf g.row.T.Denot). m.0 ≡ only m.0 ∷ []) (sym told) refl) (ap (λ (m : MeOf g.row.T.Denot). (only m.0).reads) told)
          (subst (λ (m : MeOf g.row.T.Denot). IsAt (only m.0).start (only m.0).knows c.args.number c.args.position) (sym told) r.2) (inr (leaves, refl, refl)),
    )

pub store-requires-in-Some : goal.store-requires-in-Some
store-requires-in-Some g c =
    let key = c.self.inside.table.shared.key in let hp = (subst (λ o. HasPlaceOrNone o c.args.seat.now 0) c.in-Some.is c.requires.subscribed.1).0 in let r = c.requires.subscribed.0 in
    let start = ap (λ z. z.start) c.requires.flow ∙ ap (λ z. z.table_id.start) (sym c.self.view_is) in
    let at = hp.word ∙ ap (λ (z : RingStart). place_at z hp.at) start in let below = word_below key hp.at (subst (λ (z : RingStart). hp.at < z.places) start hp.there) in let count = c.self.invariant.14 in
    let x = mine (post_of c.args.seat.now) c.args.number c.args.position in let post : Post = record { place = hp.at; moves = false } in let leaves : Post = record { place = hp.at; moves = true } in
    let told = c.store.ensures.2 x post r.1 hp.post in let left = c.fetch_sub.ensures.2 (mine (Some leaves) c.args.number c.args.position) (ap (λ (m : MeOf g.row.T.Denot). (only m.0).reads) told) in (
      c.fetch_sub.ensures.0 ∙ (c.store.ensures.0 ∙ (ap (λ z. z.table) c.requires.flow ∙ ap (λ z. z.table_id.table) (sym c.self.view_is))),
      omega (arith, at, below, count),
      freeing _ _ _ _ _ _ _ (mine (Some leaves) c.args.number c.args.position) leaves _ (ap (λ m. m.0) left.0.2) left.2 refl at left.3,
    )

pub fetch_sub-requires-in-None : goal.fetch_sub-requires-in-None
fetch_sub-requires-in-None g c =
    let r = c.requires.subscribed.0 in let bare = subst (λ o. HasPlaceOrNone o c.args.seat.now 0) c.in-None.is c.requires.subscribed.1 in
    let start = ap (λ z. z.start) c.requires.flow ∙ ap (λ z. z.table_id.start) (sym c.self.view_is) in
    (search rules, search rules, leaving _ _ _ _ _ _ _ (mine (post_of c.args.seat.now) c.args.number c.args.position) (ap (λ m. m.0) r.0.0) r.1 r.2 (inl (ap (λ (z : RingStart). z.places) (sym start) ∙ bare)))

pub returns-in-Some-clause-called : goal.returns-in-Some-clause-called
returns-in-Some-clause-called g c =
    let T = g.row.T.Denot in let hp = (subst (λ o. HasPlaceOrNone o c.args.seat.now 0) c.in-Some.is c.requires.subscribed.1).0 in let r = c.requires.subscribed.0 in let s = c.args.seat.now in let t = c.store.new.seat in let u = c.fetch_sub.new.seat in let v = c.store-in-Some.new.seat in
    let x = mine (post_of s) c.args.number c.args.position in let post : Post = record { place = hp.at; moves = false } in let leaves : Post = record { place = hp.at; moves = true } in
    let told = c.store.ensures.2 x post r.1 hp.post in let left = c.fetch_sub.ensures.2 (mine (Some leaves) c.args.number c.args.position) (ap (λ (m : MeOf T). (only m.0).reads) told) in let freed = c.store-in-Some.ensures.2 in
    let began : began_as (only s.me.0).start ≡ c.args.self.now.first = ap (λ z. began_as z.start) c.requires.flow ∙ (ap (λ z. began_as z.table_id.start) (sym c.self.view_is) ∙ ap (λ z. z.first) c.self.view_is) in
    let called = told_calls c.args.self.now.first t u (call.Unsubscribe c.args.number) (reply.Tested true) c.fetch_sub.ensures.0 (ap (λ (m : MeOf T). began_as (only m.0).start) told ∙ began) left.0 in
    let before : ring_token t ≡ ring_token s = λ i. token (word_flow_id (c.store.ensures.0 i) (only (told i).0).start) (only (told i).0).knows in
    let after : ring_token v ≡ ring_token u = λ i. token (word_flow_id (c.store-in-Some.ensures.0 i) (only (freed i).0).start) (only (freed i).0).knows in
    subst (λ (z : WordFlowToken T × WordFlowToken T). CallsAtOnceIn shared_flow c.args.self.now.first z.0 (call.Unsubscribe c.args.number) (reply.Tested true) z.1) (λ i. (before i, sym after i)) called

pub returns-in-Some-clause-idle : goal.returns-in-Some-clause-idle
returns-in-Some-clause-idle g c =
    let T = g.row.T.Denot in let hp = (subst (λ o. HasPlaceOrNone o c.args.seat.now 0) c.in-Some.is c.requires.subscribed.1).0 in let r = c.requires.subscribed.0 in
    let x = mine (post_of c.args.seat.now) c.args.number c.args.position in let post : Post = record { place = hp.at; moves = false } in let leaves : Post = record { place = hp.at; moves = true } in
    let told = c.store.ensures.2 x post r.1 hp.post in let left = c.fetch_sub.ensures.2 (mine (Some leaves) c.args.number c.args.position) (ap (λ (m : MeOf T). (only m.0).reads) told) in let freed = c.store-in-Some.ensures.2 in
    let slots : c.fetch_sub.new.seat.me.1 ≡ [] = ap (λ (m : MeOf T). m.1) left.0.2 ∙ (ap (λ (m : MeOf T). m.1) told ∙ ap (λ (m : MeOf T). m.1) r.0.0) in
    subst (λ (m : MeOf T). (m ≡ (only m.0 ∷ [], [])) × ((only m.0).hold ≡ None)) (sym (freed ∙ (λ i. (ring_known (only c.fetch_sub.new.seat.me.0).knows (only c.fetch_sub.new.seat.me.0).start None None ∷ [], slots i)))) (refl, refl)
