-- `allocate` returns `Err` if the allocation is refused, and otherwise what the inner allocator returns. Assumes `Logic`.
use Rattle.std.proofs.Common.{◌≡◌, ℕ, ◌+◌, ◌^◌, ◌<◌, true, false, List, [], ◌∷◌, Ok, Err, refl, w64, Bor, ap}
use Rattle.std.proofs.alloc.Calls.{Al, α, seen, Answer, answer_val, Answer-typed, Answer-Ok, Answer-err, takes_key, Takes, at_takes, Answered, Takes-goes, Takes-gives, answers}
use Rattle.std.proofs.alloc.Shapes.{after}
use mathlib.Core.Bool.{Bool}
use seplogic.Ra.Ura.{Ura}
use mir.Syntax.{Ty, Fn, Args, a_type, dnil, dcons}
use mir.Val.{Val, vbool, vint, vptr}
use mir.MapTy.{inst_fn}
use base.Logic.{SProp, ent, sep, emp, id⊢, ex, guard}
use base.Fml.{Lft, Share, ftrue, flft, fsep}
use prog.Memory.{Memory, size, align, capped, up}
use prog.Routine.{Routine}
use prog.Wp.{Env, WpFn, Tables}
use types.Logic.{Logic, sem}
use types.Kit.{‵, raw, ◌⊛◌, some, later, given, at_ret, pick, learn, ◌$◌, ◌∵◌, !, qed, by, move, keep, use0, use1, use2, split, join, fsplit, fjoin, suffices, await, done, feq_i, feq_l, check, show, updating, now as at_once}
use types.Part.{agg}
use types.Run.{stop, fld, addr, lit, first, no_more, and_then, branches, skips, exec, returns, returns_within, enter}
use types.ByLocal.{alloc_all, pass_all, free_all, look_at, get, through, sets, lands_as, env}
use contract.BorrowLft.{◌⊑◌, ⊑_trans}
use contract.Monad.{Fun, fact}
use contract.Running.{tables, tables_of}
use sound.WpLaws.{fm_of, WpFn-mono}
use denote.Builtin.{usize, bool, RefOf}
use denote.Exit.{yes}
use denote.Opens.{unhide}
use denote.Plain.{uint_vals, uint_Tells}
use denote.RattleType.{owns, RattleType}
use denote.RawPtr.{block_ptr}
use denote.Ref.{shr_vals}
use denote.Signature.{plain, types_at, Slot}
use denote.Steps.{heard, nothing, only}
use denote.Triple.Call.{calls_at}
use denote.Triple.Clauses.{Ended, Clauses}
use denote.Triple.Spec.{triple_of}
use denote.Triple.Statement.{Triple, Contract}
use denote.Triple.Table.{entered, cited}
use denote.Triple.Walked.{Stays, stay_dropped, walk_of, ends_at, walked, Goes-dropped, walk_Meets}
use Rattle.flow_refusals.proofs.memory.refuses.Symbol as refuses_symbol
use Rattle.flow_refusals.proofs.memory.refuses.Met as refuses_met
use Rattle.flow_refusals.specs.contracts.memory.Refusing as memory
use Rattle.flow_refusals.specs.contracts.memory.RefusingAllocator.allocate as said
use Rattle.flow_refusals.specs.contracts.memory.RefusingAllocator.allocate.Key as key
use Rattle.flow_refusals.proofs.memory.RefusingAllocator.allocate.Statement as stated
use Rattle.flow_refusals.proofs.memory.RefusingAllocator.allocate.Code as code
use denote.Memory.{hidden_shr}
use Rattle.std.specs.contracts.sync.atomic.AtomicU64 as AtomicU64
use Rattle.flow_refusals.specs.contracts.memory.refuses as refuses
use denote.Param.{bounded, param}

-- The inner allocator: the arguments of a function that passes a call on to it, and its `&self`.
abbrev args_of : Al → Args
args_of Z = bounded (a_type ∷ []) (Z.row, tt) (dcons Z.d (dcons Z.drops dnil))

abbrev self_of : Al → Slot 2
self_of Z = RefOf (0 ∷ []) tt (plain (λ _. memory.the_row (param 0 Z.row))) (λ _. tt)

-- A call of `refuses`: what it takes from its caller, and what it gives back.

-- the counter of what is left, as it is in memory
abbrev Left : RattleType
Left = AtomicU64.the_row

module _ {M : Type 1} {𝓤 : Ura M} (𝓛 : Logic 𝓤) (at_mem : Memory → SProp 𝓤) (run : Routine → Fun 𝓤) where
  abbrev Refuses : Contract 𝓤
  Refuses = triple_of 𝓛 refuses.signature (refuses.spec 𝓛 at_mem run)

  -- the call whose `&` lives for κ and leads to p
  abbrev at_refuses : Lft → Share → ℕ × ℕ → Refuses.Ghost
  at_refuses κ q p = (((κ, tt), (q, tt), tt, (record { ref_ptr = p; now = tt }, tt), (vptr p.0 p.1 ∷ [], tt)), tt)

module _ {M : Type 1} {𝓤 : Ura M} (𝓛 : Logic 𝓤) (at_mem : Memory → SProp 𝓤) (run : Routine → Fun 𝓤) (κ : Lft) (q : Share) (p : ℕ × ℕ) where
  open 𝓛 use {H, A}

  refuses_takes : ent 𝓤 (sep 𝓤 (sem 𝓛 (hidden_shr Left κ tt p.0 p.1)) (A.lft κ q)) ((Refuses 𝓛 at_mem run).pre (at_refuses 𝓛 at_mem run κ q p))
  refuses_takes =
      qed 𝓛 (‵ (hidden_shr Left κ tt p.0 p.1) ∷ ‵ (flft κ q) ∷ []) ∵
      feq_i ! (List Val) (vptr p.0 p.1 ∷ []) (vptr p.0 p.1 ∷ []) refl $ fjoin ! $
      nothing ! $ move ! (1 ∷ []) $ fjoin ! $ nothing ! $ move ! (2 ∷ []) $ join ! $ join ! $ nothing ! $ move ! (1 ∷ []) $ done !

  -- the call gives a boolean, and returns the lifetime's token
  refuses_gives : (v : Val) → ent 𝓤 ((Refuses 𝓛 at_mem run).post (at_refuses 𝓛 at_mem run κ q p) v)
      (H.⇛ (ex 𝓤 (λ (r : Bool). guard 𝓤 (v ≡ vbool r) (A.lft κ q))))
  refuses_gives v =
      qed 𝓛 (raw ((Refuses 𝓛 at_mem run).post (at_refuses 𝓛 at_mem run κ q p) v) ∷ []) ∵ updating ! $
      use1 𝓛 (later (some (λ (r : Bool). ((‵ (flft κ q) ⊛ ‵ ftrue) ⊛ ‵ (bool.own_val r (v ∷ [])))
      ⊛ some (λ (ws : Unit {0} × Unit {0}). ‵ (fsep ftrue ftrue) ⊛ ‵ ftrue)))) (id⊢ 𝓤 _) $ await ! tt $ pick ! (λ r.
      split ! $ split ! $ move ! (1 ∷ []) $ feq_l ! (λ e. split ! $ at_once ! $
      show ! (λ (r : Bool). guard 𝓤 (v ≡ vbool r) (A.lft κ q)) r $ check ! (ap only e) $ keep ! (0 ∷ []) $ done !))

-- the function at the inner allocator, what it takes and what it gives
module _ (Z : Al) where
  abbrev function : Fn
  function = inst_fn (args_of Z) code.function

  abbrev ended : Ended
  ended = said.ended Z.row Z.g Z.d Z.drops

  abbrev stays : Stays ended.signature.params ended.kept
  stays = (stay_dropped (self_of Z) yes, (stay_dropped (plain (λ _. usize)) yes, (stay_dropped (plain (λ _. usize)) yes, tt)))

module _ (Z : Al) {M : Type 1} {𝓤 : Ura M} (𝓛 : Logic 𝓤) (at_mem : Memory → SProp 𝓤) (run : Routine → Fun 𝓤) (𝓣 : Tables 𝓤 𝓛.H) (inner : Triple 𝓤 (𝓣.C (takes_key Z)) (Takes Z 𝓛 at_mem run)) (counts : Triple 𝓤 (𝓣.C refuses_symbol.name) (Refuses 𝓛 at_mem run)) where
  open 𝓛 use {H, A}

  abbrev clauses : Clauses 𝓤 (ended Z)
  clauses = said.clauses Z.row Z.g Z.d Z.drops 𝓛 at_mem run

  module _ (κ₁ κ₂ : Lft) (q₁ q₂ : Share) (inn : κ₁ ⊑ κ₂) (r : Bor (memory.the_row Z.row).Denot) (n a : ℕ) (τ : Ty) where
    abbrev bound : (walk_of 𝓛 (ended Z) (stays Z) clauses).Ghost
    bound = (((κ₁, (κ₂, tt)), (q₁, (q₂, tt)), (inn, tt), (r, (n, (a, tt))), (shr_vals r, (vint w64 n ∷ [], (vint w64 a ∷ [], tt)))), τ)

    abbrev vs : List Val
    vs = vptr r.ref_ptr.0 r.ref_ptr.1 ∷ vint w64 n ∷ vint w64 a ∷ []

    abbrev Post : Val → SProp 𝓤
    Post = (walk_of 𝓛 (ended Z) (stays Z) clauses).post bound

    -- the numbers are the size and the alignment of τ
    abbrev Sized : Type 0
    Sized = (capped (size τ) ≡ n) × (capped (align τ) ≡ a)

    -- `Err` is returned with both lifetimes' tokens
    refuses_it : ent 𝓤 (sep 𝓤 (A.lft κ₁ q₁) (sep 𝓤 (A.lft κ₂ q₂) (emp 𝓤))) (Post (answer_val false 0 0))
    refuses_it =
        qed 𝓛 (‵ (flft κ₁ q₁) ∷ (‵ (flft κ₂ q₂) ⊛ ‵ ftrue) ∷ []) ∵
        suffices ! _ (ends_at 𝓛 (ended Z) (stays Z) clauses bound (answer_val false 0 0) (Err (record {})) (tt, (tt, (tt, tt))) (tt, (tt, (tt, tt)))) $
        nothing ! $ use0 𝓛 (‵ (Answer.own_val (Err (record {})) (answer_val false 0 0 ∷ []))) (Answer-err 𝓛) $ nothing ! $ nothing ! $ fjoin ! $ nothing ! $ fjoin ! $ nothing ! $ fjoin ! $ join ! $
        move ! (2 ∷ 3 ∷ []) $ join ! $ join ! $ done !

    walk : n < 2 ^ 64 → a < 2 ^ 64 → ent 𝓤 ((walk_of 𝓛 (ended Z) (stays Z) clauses).pre bound) (WpFn 𝓤 H 𝓣.C 𝓣.Λ (function Z) vs Post)
    walk fn fa =
        let handle : Z.row.Denot = r.now.inner in
        let p : ℕ × ℕ = (r.ref_ptr.0, r.ref_ptr.1 + up (align (α Z)) 0) in
        let left : ℕ × ℕ = (r.ref_ptr.0, r.ref_ptr.1 + up 8 (up (align (α Z)) 0 + size (α Z))) in
        let at : (Takes Z 𝓛 at_mem run).Ghost = at_takes Z 𝓛 at_mem run κ₁ q₁ p handle n a τ in
        qed 𝓛 (((‵ (flft κ₁ q₁) ⊛ ‵ (flft κ₂ q₂) ⊛ ‵ ftrue) ⊛ ‵ (owns (types_at (ended Z).signature.params bound.0.0) bound.0.3 bound.0.4)) ∷ (raw (fact 𝓤 (κ₂ ⊑ Z.row.lives)) ⊛ raw (fact 𝓤 Sized)) ∷ []) ∵
        move ! (1 ∷ []) $ split ! $ heard ! (κ₂ ⊑ Z.row.lives) (λ lives. heard ! Sized (λ sized.
        split ! $ split ! $ move ! (2 ∷ []) $ fsplit ! $ fsplit ! $ move ! (1 ∷ []) $ unhide ! $ fsplit ! $ fsplit ! $
        use1 𝓛 (‵ (seen Z κ₁ p handle)) (id⊢ 𝓤 _) $ move ! (1 ∷ []) $ fsplit ! $ keep ! (0 ∷ 6 ∷ 2 ∷ 7 ∷ []) $
        enter ! 𝓣.C 𝓣.Λ (function Z) vs _ $ alloc_all ! (λ l. pass_all ! refl ((tt, tt), ((tt, record { fits = fn }), ((tt, record { fits = fa }), tt))) $
        let En : Env 𝓤 H = env (function Z).locals l in
        sets ! (addr ! (through ! refl (fld ! refl (stop !)))) refl (tt, tt) $
        use2 𝓛 (raw ((Refuses 𝓛 at_mem run).pre (at_refuses 𝓛 at_mem run κ₁ q₁ left))) (refuses_takes 𝓛 at_mem run κ₁ q₁ left) $
        calls_at ! (fm_of 𝓤 H 𝓛.laws 𝓣) (Refuses 𝓛 at_mem run) counts (at_refuses 𝓛 at_mem run κ₁ q₁ left) (and_then ! (get ! refl) (no_more !)) (λ u.
        use1 𝓛 (later (some (λ (y : Bool). given (u ≡ vbool y) (‵ (flft κ₁ q₁))))) (refuses_gives 𝓛 at_mem run κ₁ q₁ left u) $ await ! tt $ pick ! (λ y. learn ! (λ eu.
        lands_as ! eu refl (tt, tt) $ first ! $ branches ! (get ! refl)
        (λ is_refused. sets ! (agg ! (no_more !)) refl (tt, tt) $
        sets ! (agg ! (and_then ! (lit ! tt) (and_then ! (get ! refl) (no_more !)))) refl (Answer-typed false 0 0) $
        returns_within ! Post refl (look_at ! 0 refl) $ free_all ! refl $ keep ! (0 ∷ 2 ∷ []) $ by ! refuses_it)
        (λ is_passed. skips ! $ exec ! 𝓣.C 𝓣.Λ En (after 3 (function Z).body) (at_ret En Post) $ move ! (1 ∷ []) $
        sets ! (addr ! (through ! refl (fld ! refl (stop !)))) refl (tt, tt) $
        use2 𝓛 (raw ((Takes Z 𝓛 at_mem run).pre at)) (Takes-goes Z 𝓛 at_mem run κ₁ q₁ p handle (⊑_trans κ₁ κ₂ Z.row.lives inn lives) n a τ sized.0 sized.1 fn fa) $
        calls_at ! (fm_of 𝓤 H 𝓛.laws 𝓣) (Takes Z 𝓛 at_mem run) inner at (and_then ! (get ! refl) (and_then ! (get ! refl) (and_then ! (get ! refl) (no_more !)))) (λ v.
        use1 𝓛 (later (raw (Answered Z 𝓛 at_mem run handle τ v) ⊛ ‵ (flft κ₁ q₁))) (Takes-gives Z 𝓛 at_mem run κ₁ q₁ p handle n a τ v) $ await ! tt $ split ! $
        answers Z ! at_mem run handle τ v
        (λ b o e. fjoin ! $ lands_as ! e refl (Answer-typed true b o) $ returns ! (look_at ! 0 refl) $ free_all ! refl $
        suffices ! _ (ends_at 𝓛 (ended Z) (stays Z) clauses bound (answer_val true b o) (Ok (block_ptr b o)) (tt, (tt, (tt, tt))) (tt, (tt, (tt, tt)))) $
        use0 𝓛 (‵ (Answer.own_val (Ok (block_ptr b o)) (answer_val true b o ∷ []))) (Answer-Ok 𝓛 b o) $ nothing ! $ nothing ! $ fjoin ! $ nothing ! $ fjoin ! $ nothing ! $ fjoin ! $ join ! $
        move ! (2 ∷ 3 ∷ []) $ join ! $ join ! $ done !)
        (λ e. lands_as ! e refl (Answer-typed false 0 0) $ returns ! (look_at ! 0 refl) $ free_all ! refl $ by ! refuses_it)))))))))

pub allocate_spec : {M : Type 1} → stated.statement M
unfolding tables_of
allocate_spec 𝓤 𝓛 𝓜 𝓡 wired Y L g d drops met _ =
    let Z : Al = record { row = Y; laws = L; g = g; d = d; drops = drops } in
    let A = 𝓛.A in
    let 𝓣 : Tables 𝓤 𝓛.H = tables_of 𝓤 𝓛.H 𝓜 (tables 𝓤 𝓛.H 𝓜 𝓡 𝓡.env) in
    let c = said.clauses Y g d drops 𝓛 𝓜.mem 𝓡.returns in
    entered 𝓤 𝓛.H (triple_of 𝓛 (said.signature Y) (said.spec Y g d drops 𝓛 𝓜.mem 𝓡.returns)) 𝓣.C 𝓣.Λ (key.name (args_of Z)) (function Z) (code.unfolded 𝓤 𝓛.H 𝓜 𝓡 wired (Y, tt) d drops)
    (walk_Meets 𝓛 (ended Z) (stays Z) (Goes-dropped 𝓛 2 (self_of Z) yes (λ κs x f. refl), (Goes-dropped 𝓛 2 (plain (λ _. usize)) yes (λ κs x f. refl), (Goes-dropped 𝓛 2 (plain (λ _. usize)) yes (λ κs x f. refl), tt))) c (WpFn 𝓤 𝓛.H 𝓣.C 𝓣.Λ (function Z)) (WpFn-mono 𝓤 𝓛.H 𝓛.laws 𝓣 (function Z))
    (walked 𝓛 (ended Z) (stays Z) c (WpFn 𝓤 𝓛.H 𝓣.C 𝓣.Λ (function Z)) (λ κs. (shr_vals, (uint_vals w64, (uint_vals w64, tt)))) (λ κs. ((λ r vs s. s.0), (uint_Tells w64, (uint_Tells w64, tt))))
    (λ κs qs bounds a τ are. walk Z 𝓛 𝓜.mem 𝓡.returns 𝓣 (met.allocate drops) (cited 𝓤 𝓛.H _ 𝓜 𝓡 𝓡.env refuses_symbol.name (𝓡.env refuses_symbol.name) refl (refuses_met.met 𝓤 𝓛 𝓜 𝓡 (code.calls-flow_refusals::memory::refuses 𝓡.env wired))) κs.0 κs.1.0 qs.0 qs.1.0 bounds.0 a.0 a.1.0 a.1.1.0 τ are.1.0.1 are.1.1.0.1)))
