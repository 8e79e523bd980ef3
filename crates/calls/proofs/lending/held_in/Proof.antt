-- `held_in` lends the value in the handle's box, and the handle follows it.
use Rattle.std.proofs.Common.{◌≡◌, ℕ, List, [], ◌∷◌, refl, sym, ap, ◌∙◌, lit<}
use seplogic.Ra.Ura.{Ura}
use base.Fraction.{full_share}
use mir.Syntax.{named}
use mir.Raw.{raw as bare}
use mir.Val.{Val, vptr, vcons, vnil}
use base.Logic.{SProp, ent, sep, ex}
use base.Fml.{Lft, GName, Share, Fml, ftrue, flft, fobs, fres, fsep}
use prog.Memory.{Memory}
use prog.Routine.{Routine}
use types.Logic.{Logic, sem}
use types.Kit.{‵, raw, ◌⊛◌, some, later, at_ret, ◌$◌, ◌∵◌, !, qed, by, done, move, keep, use0, use1, split, join, group}
use types.Kit.{pick, await, rewrite, suffices, frame, fsplit, fsplit3, fjoin, fpack, feq_i}
use types.Match.{live}
use types.SemTy.{Body}
use types.Part.{whole, sub, look_in, agg}
use types.Run.{stop, fld, load, lit, bin, addr, of_opd, no_more, and_then}
use types.Run.{first, blocks, branches, skips, exec, returns, returns_within, enter}
use types.ByLocal.{alloc_all, pass_all, free_all, look_at, get, through, sets, sets_last, env}
use contract.Monad.{Fun}
use contract.Running.{tables}
use denote.Exit.{no}
use denote.Follow.{follows, follows_by, Part, lends_Part}
use denote.Memory.{part_at, mem, cell_at, part_of, lone}
use denote.RattleType.{RattleType}
use denote.RawPtr.{Ptr, block_ptr, null_ptr, tests_null}
use denote.Ref.{MutBor, MutRef, mut_vals, mut_Tells}
use denote.Signature.{plain, mut_ref_to}
use denote.Steps.{nothing, opens, closes}
use denote.Triple.Clauses.{Clauses}
use denote.Triple.Walked.{says, Stays, stay_dropped, walk_of, ends_at, Goes-spent_ref}
use Rattle.std.proofs.option.Made.{Some-of, none_of}
use Rattle.std.proofs.raw_atomic.Walks.{proved}
use Rattle.std.specs.Prelude.{Some, None}
use Rattle.std.specs.contracts.option.Option as option
use Rattle.calls.specs.Owned.{chunk, owned}
use Rattle.calls.proofs.Values.{R, Hand, single, ptr_good, hand_out, hand_in, either_held}
use Rattle.calls.specs.contracts.lending.held_in as f
use Rattle.calls.proofs.lending.held_in.Statement.{statement}
use Rattle.calls.proofs.lending.held_in.Code as code
use Rattle.calls.proofs.lending.held_in.Code.Mir.{t-4, t-5}

abbrev stayed : Stays f.ended.signature.params f.ended.kept
stayed = (stay_dropped (mut_ref_to (0 ∷ []) tt (plain (λ _. Hand))) no, tt)

abbrev with_held : Hand.Denot → R.Denot → Hand.Denot
with_held h w = record h { held = Some w }

module _ {M : Type 1} {𝓤 : Ura M} (𝓛 : Logic 𝓤) (κ : Lft) (q : Share) (rb ro : ℕ) (γ : GName) (h : Hand.Denot) where
  open 𝓛 use {H, A}

  abbrev self : MutBor Hand.Denot
  self = record { ref_ptr = (rb, ro); ghost_name = γ; now = h }

  -- the handle's own bytes, with this pointer
  abbrev Bytes : Ptr → Fml
  Bytes p = cell_at full_share Hand.mir (single p ∷ []) rb ro

  module _ (x : R.Denot) (b o : ℕ) (e : h.at ≡ block_ptr b o) where
    -- all of the handle but the value
    abbrev Rest : Fml
    Rest = fsep (chunk (bare (lone R.mir)) (block_ptr b o)) (Bytes (block_ptr b o))

    back : (w : R.Denot) → ent 𝓤 (sep 𝓤 (sem 𝓛 ((mem R).own_at w b o)) (sem 𝓛 Rest)) (sem 𝓛 ((mem Hand).own_at (with_held h w) rb ro))
    unfolding part_of
    back w =
        qed 𝓛 (‵ (part_at R full_share w b o) ∷ ‵ Rest ∷ []) ∵ move ! (1 ∷ []) $ fsplit ! $ move ! (2 ∷ 0 ∷ []) $ fjoin ! $
        rewrite ! 0 (λ (p : Ptr). ‵ (owned R p (Some w))) (sym e) refl $ hand_in ! h.at (Some w) $
        move ! (1 ∷ []) $ rewrite ! 0 (λ (p : Ptr). ‵ (Bytes p)) (sym e) refl $ fjoin ! $
        fpack ! (List Val) (λ us. fsep (cell_at full_share Hand.mir us rb ro) (Hand.own_val (with_held h w) us)) (single h.at ∷ []) $ done !

    -- the value is lent under this name, which the handle follows
    abbrev Lent : GName → SProp 𝓤
    Lent = Part 𝓛 Hand R (with_held h) (named 0) κ q rb ro b o γ (sem 𝓛 Rest) back x

    abbrev Opened : SProp 𝓤
    Opened = sep 𝓤 (A.obor κ q (Body (mem Hand) rb ro γ)) (sep 𝓤 (A.obs γ (Hand.coded.code h))
        (sep 𝓤 (A.auth γ (Hand.coded.code h)) (sep 𝓤 (sem 𝓛 ((mem R).own_at x b o)) (sem 𝓛 Rest))))

    lends : ent 𝓤 Opened (H.⇛ (ex 𝓤 Lent))
    lends =
        let code = Hand.coded.code h in
        lends_Part 𝓛 Hand R (with_held h) (named 0) κ q rb ro b o γ (sem 𝓛 Rest) back code code x

  module _ (at_mem : Memory → SProp 𝓤) (run : Routine → Fun 𝓤) where
    abbrev clauses : Clauses 𝓤 f.ended
    clauses = f.clauses 𝓛 at_mem run

    abbrev bound : (walk_of 𝓛 f.ended stayed clauses).Ghost
    bound = (((κ, tt), (q, tt), tt, (self, tt), (vptr rb ro ∷ [], tt)), tt)

    abbrev Post : Val → SProp 𝓤
    Post = (walk_of 𝓛 f.ended stayed clauses).post bound

    abbrev Out : RattleType
    Out = option.the_row (MutRef (named 0) κ R)

    -- nothing is lent, and the handle stays
    stays : h.held ≡ None → ent 𝓤 (sep 𝓤 (A.obs γ (Hand.coded.code h)) (A.lft κ q)) (Post (live 0 vnil))
    unfolding follows_by
    stays is =
        let code = Hand.coded.code h in let v = live 0 vnil in
        qed 𝓛 (‵ (fobs γ code) ∷ ‵ (flft κ q) ∷ []) ∵ use1 𝓛 (‵ (fres γ code)) (𝓛.names.obs-res γ code) $ move ! (1 ∷ []) $
        use0 𝓛 (‵ (Out.own_val None (v ∷ []))) (none_of 𝓛 (MutRef (named 0) κ R)) $
        suffices ! _ (ends_at 𝓛 f.ended stayed clauses bound v None (tt, tt) (tt, tt)) $
        nothing ! $ nothing ! $ fjoin ! $ join ! $ nothing ! $ move ! (2 ∷ 0 ∷ []) $ join ! $ join ! $ frame ! $ says ! is $ done !

    exits : (x : R.Denot) (b o : ℕ) (e : h.at ≡ block_ptr b o) → h.held ≡ Some x → (γ' : GName)
        → ent 𝓤 (Lent x b o e γ') (Post (live 1 (vcons (vptr b o) vnil)))
    unfolding follows_by
    exits x b o e is γ' =
        let r : MutBor R.Denot = record { ref_ptr = (b, o); ghost_name = γ'; now = x } in let v = live 1 (vcons (vptr b o) vnil) in
        qed 𝓛 (‵ ((MutRef (named 0) κ R).own_val r (vptr b o ∷ [])) ∷ ‵ (flft κ q) ∷ ‵ (follows Hand R γ γ' (with_held h)) ∷ []) ∵
        use1 𝓛 (‵ (Out.own_val (Some r) (v ∷ []))) (Some-of 𝓛 (MutRef (named 0) κ R) r (vptr b o)) $
        suffices ! _ (ends_at 𝓛 f.ended stayed clauses bound v (Some r) (tt, tt) (tt, tt)) $
        nothing ! $ nothing ! $ fjoin ! $ join ! $ nothing ! $ move ! (2 ∷ 0 ∷ []) $ join ! $ join ! $ frame ! $ says ! is $ done !

pub held_in_spec : {M : Type 1} → statement M
held_in_spec 𝓤 𝓛 𝓜 𝓡 wired =
    let c = f.clauses 𝓛 𝓜.mem 𝓡.returns in let W = walk_of 𝓛 f.ended stayed c in let 𝓣 = tables 𝓤 𝓛.H 𝓜 𝓡 𝓡.env in
    proved 𝓛 f.ended stayed c 𝓜 𝓡 (Goes-spent_ref 𝓛 1 (0 ∷ []) tt (plain (λ _. Hand)), tt)
    f.Key.name code.function (code.unfolded 𝓤 𝓛.H 𝓜 𝓡 wired)
    (λ κs. (mut_vals, tt)) (λ κs. (mut_Tells (named 0) κs.0 Hand, tt)) (λ κs qs bounds a g are.
    let rb = a.0.ref_ptr.0 in let ro = a.0.ref_ptr.1 in let h = a.0.now in let γ = a.0.ghost_name in let κ = κs.0 in let q = qs.0 in
    let Post : Val → SProp 𝓤 = W.post ((κs, qs, bounds, a, (mut_vals a.0, tt)), g) in
    let Handed : Fml = (MutRef (named 0) κ Hand).own_val a.0 (mut_vals a.0) in let Cell : Ptr → Fml = Bytes 𝓛 κ q rb ro γ h in
    qed 𝓛 (((‵ (flft κ q) ⊛ ‵ ftrue) ⊛ ‵ Handed ⊛ ‵ ftrue) ∷ raw ((c κs a).requires g) ∷ []) ∵
    split ! $ split ! $ move ! (2 ∷ []) $ split ! $ keep ! (0 ∷ 2 ∷ []) $
    enter ! _ _ _ _ _ $ alloc_all ! (λ l. pass_all ! refl ((tt, tt), tt) $ let Ev = env code.Mir.locals l in
    fsplit3 ! $ move ! (1 ∷ 2 ∷ 3 ∷ []) $ opens ! tt Hand rb ro (λ us. move ! (1 ∷ []) $ hand_out ! h us (λ ew.
    either_held ! (record { memory = record { seal = tt } }) h.at h.held
    (λ e is.
    -- [the handle's bytes; the open borrow, in three entries]
    rewrite ! 0 (λ (ws : List Val). ‵ (cell_at full_share Hand.mir ws rb ro)) (ew ∙ ap (λ (p : Ptr). single p ∷ []) e) refl $
    sets ! (of_opd ! (load ! (through ! refl (fld ! refl (stop !))) (look_in ! 0 (sub ! 0 refl (whole !))))) refl (ptr_good null_ptr) $
    sets ! (bin ! (get ! refl) (lit ! tt) tt) refl (tt, tt) $ first ! $ branches ! (get ! refl)
    (λ _. sets ! (agg ! (and_then ! (lit ! tt) (no_more !))) refl (tt, (record { fits = lit< tt }, tt)) $
    feq_i ! Ptr null_ptr null_ptr refl $ hand_in ! null_ptr None $
    rewrite ! 0 (λ (d : Hand.Denot). ‵ (Hand.own_val d (single d.at ∷ []))) (λ i. record { at = sym e i; held = sym is i }) refl $
    move ! (1 ∷ []) $ rewrite ! 0 (λ (p : Ptr). ‵ (Cell p)) (sym e) refl $ closes ! tt Hand h (single h.at ∷ []) rb ro $
    returns_within ! Post refl (look_at ! 0 refl) $ free_all ! refl $ keep ! (0 ∷ 2 ∷ []) $
    by ! (stays 𝓛 κ q rb ro γ h 𝓜.mem 𝓡.returns is))
    (λ wrong. absurd wrong))
    (λ b o x e is t. fsplit ! $
    rewrite ! 2 (λ (ws : List Val). ‵ (cell_at full_share Hand.mir ws rb ro)) (ew ∙ ap (λ (p : Ptr). single p ∷ []) e) refl $
    -- [the value; the right to free it; the handle's bytes; the open borrow, in three entries]
    sets ! (of_opd ! (load ! (through ! refl (fld ! refl (stop !))) (look_in ! 2 (sub ! 0 refl (whole !))))) refl (tt, tt) $
    sets ! (bin ! (get ! refl) (lit ! tt) (tests_null (block_ptr b o) t)) refl (tt, tt) $ first ! $ branches ! (get ! refl)
    (λ wrong. absurd wrong)
    (λ _. skips ! $ exec ! 𝓣.C 𝓣.Λ Ev t-4 (at_ret Ev Post) $ first ! $ blocks ! $
    sets ! (of_opd ! (load ! (through ! refl (fld ! refl (stop !))) (look_in ! 2 (sub ! 0 refl (whole !))))) refl (tt, tt) $
    sets ! (of_opd ! (get ! refl)) refl (tt, tt) $
    sets ! (addr ! (through ! refl (stop !))) refl (tt, tt) $
    sets_last ! (agg ! (and_then ! (lit ! tt) (and_then ! (get ! refl) (no_more !)))) refl (tt, (record { fits = lit< tt }, (tt, tt))) $
    exec ! 𝓣.C 𝓣.Λ Ev t-5 (at_ret Ev Post) $
    sets ! (of_opd ! (get ! refl)) refl (tt, (record { fits = lit< tt }, (tt, tt))) $
    move ! (1 ∷ 2 ∷ []) $ fjoin ! $ move ! (2 ∷ 3 ∷ 4 ∷ 1 ∷ 0 ∷ []) $ group ! 5 $
    use1 𝓛 (later (some (λ (γ' : GName). raw (Lent 𝓛 κ q rb ro γ h x b o e γ')))) (lends 𝓛 κ q rb ro γ h x b o e) $
    await ! tt $ pick ! (λ γ'.
    returns ! (look_at ! 0 refl) $ free_all ! refl $ keep ! (0 ∷ []) $
    by ! (exits 𝓛 κ q rb ro γ h 𝓜.mem 𝓡.returns x b o e is γ'))))))))
