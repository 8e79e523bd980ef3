-- The machine values of a handle and of a box's parts, and what each owns. Assumes `Logic`.
use Rattle.std.proofs.Common.{◌≡◌, ℕ, List, [], ◌∷◌, ◌++◌, refl, subst, lit<}
use mathlib.Core.Bool.{◌&&◌, true}
use lib.Dec.{T}
use seplogic.Ra.Ura.{Ura}
use mir.Syntax.{ty_ptr, impl, tnil, dnil}
use mir.Raw.{raw as bare}
use mir.Val.{Val, vptr, vstruct, vcons, vnil, of_list, has_ty, WT}
use base.Logic.{ent, guard, via, snd∗, guard_i, never, fst∗}
use types.Logic.{Logic, sem}
use types.Kit.{Item, Goal, Seq, Step, step, ‵, given, learn, use1, ◌$◌, move, drop, fsplit, fjoin, fpick, fpack, feq_i, feq_l}
use contract.Monad.{fact_use}
use denote.RattleType.{RattleType, Valss}
use denote.Builtin.{RawPtr}
use denote.Memory.{lone}
use denote.RawPtr.{Ptr, block_ptr, null_ptr, ptr_val, in_a_block, lies_at, Testable}
use denote.Steps.{nothing}
use denote.Param.{layout}
use denote.Struct.Struct.{within}
use denote.Struct.Owning.{shape}
use base.Fraction.{full_share}
use Rattle.std.specs.Prelude.{Option, Some, None}
use Rattle.std.specs.Box.Ownership.{box_owns}
use Rattle.std.proofs.alloc.Calls.{Al, handle_tells}
use Rattle.std.proofs.cell.Inside.{Good}
use Rattle.std.proofs.ResultValues.{and_tt}
use Rattle.std.proofs.GlobalToken.{dealloc_token-Testable}
use Rattle.std.specs.contracts.alloc.Global as heap
use Rattle.std.proofs.alloc.Global.TheLaws as heap_laws
use Rattle.std.specs.contracts.impls.GlobalAllocator.TheImpl.{ghosts}
use Rattle.calls.specs.Owned.{chunk, owned}
use Rattle.calls.specs.contracts.handle.UsbDisk as handle
use Rattle.calls.specs.HeldRow.{held_row}
use Rattle.calls.specs.contracts.parts.Parts as parts

-- the disk, the allocator, the handle and the parts as rows
abbrev pub R : RattleType
R = held_row

abbrev pub Z : RattleType
Z = heap.the_row

abbrev pub Hand : RattleType
Hand = handle.the_row

abbrev pub Parts : RattleType
Parts = parts.the_row R Z ghosts

abbrev al : Al
al = record { row = Z; laws = heap_laws.the_row_laws; g = ghosts; d = impl [] tnil dnil; drops = impl [] tnil dnil }

abbrev pub single : Ptr → Val
single p = vstruct (vcons (ptr_val p) vnil)

abbrev pub both : Val → Val → Val
both v w = vstruct (vcons v (vcons w vnil))

pub ptr_good : (p : Ptr) → T (has_ty ty_ptr (ptr_val p)) × WT (ptr_val p)
ptr_good (block_ptr b o) = (tt, tt)
ptr_good null_ptr = (tt, record { fits = lit< tt })

pub hand_good : (p : Ptr) → Good (layout Hand) (single p)
hand_good (block_ptr b o) = (tt, (tt, tt))
hand_good null_ptr = (tt, (record { fits = lit< tt }, tt))

pub parts_good : (b o : ℕ) (h : Val) → Good (layout Z) h → T (has_ty (layout Z) h && true) × WT (both (vptr b o) h)
parts_good b o h fits = (and_tt (has_ty (layout Z) h) fits.0, (tt, (fits.1, tt)))

module _ {M : Type 1} {𝓤 : Ura M} {𝓛 : Logic 𝓤} {K : Type 0} {Γ : List (Item 𝓤)} {G : Goal 𝓤 𝓛.H} where
  pub heap_tells : K → (a : Z.Denot) (vs : List Val)
      → ((v : Val) → vs ≡ v ∷ [] → Good (layout Z) v → Seq K 𝓛 (‵ (Z.own_val a (v ∷ [])) ∷ Γ) G) → Seq K 𝓛 (‵ (Z.own_val a vs) ∷ Γ) G
  heap_tells = handle_tells al

module _ {M : Type 1} {𝓤 : Ura M} {𝓛 : Logic 𝓤} {K : Type 0} {Γ : List (Item 𝓤)} {G : Goal 𝓤 𝓛.H} where
  pub hand_out : K → (d : Hand.Denot) (vs : List Val) → (vs ≡ single d.at ∷ [] → Seq K 𝓛 (‵ (owned R d.at d.held) ∷ Γ) G)
      → Seq K 𝓛 (‵ (Hand.own_val d vs) ∷ Γ) G
  hand_out t d vs k =
      fsplit t $ fpick t (λ vss. fsplit t $ feq_l t (λ ev. fsplit t $ feq_l t (λ ep. drop t $ k
      (subst (λ (ps : List Val). vs ≡ vstruct (of_list (ps ++ [])) ∷ []) ep ev))))

  pub hand_in : K → (p : Ptr) (o : Option R.Denot)
      → Step K 𝓛 (‵ (Hand.own_val (record { at = p; held = o }) (single p ∷ [])) ∷ Γ) G (‵ (owned R p o) ∷ Γ) G
  hand_in t p o = step (λ s.
      nothing t $ feq_i t (List Val) (ptr_val p ∷ []) (ptr_val p ∷ []) refl $ fjoin t $
      feq_i t (List Val) (single p ∷ []) (single p ∷ []) refl $ fjoin t $
      fpack t (Valss (RawPtr ∷ [])) (within (shape (handle.the_type)) (p, tt) (single p ∷ [])) (ptr_val p ∷ [], tt) $ fjoin t $ s)

  pub parts_out : K → (d : Parts.Denot) (vs : List Val)
      → ((b o : ℕ) (h : Val) → d.ptr ≡ block_ptr b o → vs ≡ both (vptr b o) h ∷ [] → Good (layout Z) h
      → Seq K 𝓛 (‵ (box_owns chunk R (block_ptr b o) d.value) ∷ ‵ (Z.own_val d.alloc (h ∷ [])) ∷ Γ) G)
      → Seq K 𝓛 (‵ (Parts.own_val d vs) ∷ Γ) G
  parts_out t d vs k =
      fsplit t $ fpick t (λ vss. fsplit t $ feq_l t (λ ev. fsplit t $ feq_l t (λ ep. fsplit t $ heap_tells t d.alloc vss.1.0 (λ h ea fits.
      move t (1 ∷ []) $ drop t $ move t (1 ∷ []) $
      in_a_block t d.ptr (λ p. box_owns chunk R p d.value) (fst∗ 𝓤 (never 𝓤) (sem 𝓛 (chunk (bare (lone R.mir)) null_ptr))) (λ b o e.
      k b o h e
      (subst (λ (p : Ptr). vs ≡ vstruct (of_list (ptr_val p ∷ h ∷ [])) ∷ []) e
      (subst (λ (ws : List Val). vs ≡ vstruct (of_list (ptr_val d.ptr ∷ (ws ++ []))) ∷ []) ea
      (subst (λ (ps : List Val). vs ≡ vstruct (of_list (ps ++ (vss.1.0 ++ []))) ∷ []) ep ev))) fits)))))

  pub parts_in : K → (b o : ℕ) (h : Val) (a : Z.Denot) (x : R.Denot)
      → Step K 𝓛 (‵ (Parts.own_val (record { ptr = block_ptr b o; alloc = a; value = x }) (both (vptr b o) h ∷ [])) ∷ Γ) G
      (‵ (box_owns chunk R (block_ptr b o) x) ∷ ‵ (Z.own_val a (h ∷ [])) ∷ Γ) G
  parts_in t b o h a x = step (λ s. let v : Val = both (vptr b o) h in
      nothing t $ move t (2 ∷ 0 ∷ []) $ fjoin t $ feq_i t (List Val) (vptr b o ∷ []) (vptr b o ∷ []) refl $ fjoin t $
      feq_i t (List Val) (v ∷ []) (v ∷ []) refl $ fjoin t $
      fpack t (Valss (RawPtr ∷ Z ∷ [])) (within (shape (parts.the_type R Z ghosts)) (block_ptr b o, (a, tt)) (v ∷ []))
      (vptr b o ∷ [], (h ∷ [], tt)) $ fjoin t $ s)

module _ {M : Type 1} {𝓤 : Ura M} (𝓛 : Logic 𝓤) where
  -- the block of a box may be compared with null
  pub tested : (a : Z.Denot) (p : Ptr) (x : R.Denot)
      → ent 𝓤 (sem 𝓛 (box_owns chunk R p x)) (guard 𝓤 (Testable p) (sem 𝓛 (box_owns chunk R p x)))
  tested a p x =
      fact_use 𝓤 (Testable p)
      (via 𝓤 _ (snd∗ 𝓤 (sem 𝓛 (lies_at R full_share p x)) (sem 𝓛 (chunk (bare (lone R.mir)) p)))
      (dealloc_token-Testable 𝓛 a (bare (lone R.mir)) p))
      (guard_i 𝓤 (Testable p) (sem 𝓛 (box_owns chunk R p x)))

module _ {M : Type 1} {𝓤 : Ura M} {𝓛 : Logic 𝓤} {K : Type 0} {Γ : List (Item 𝓤)} {G : Goal 𝓤 𝓛.H} where
  -- null and no disk, or a block and its disk
  pub either_held : K → (a : Z.Denot) (p : Ptr) (o : Option R.Denot) → (p ≡ null_ptr → o ≡ None → Seq K 𝓛 Γ G)
      → ((b i : ℕ) (x : R.Denot) → p ≡ block_ptr b i → o ≡ Some x → Testable (block_ptr b i)
      → Seq K 𝓛 (‵ (box_owns chunk R (block_ptr b i) x) ∷ Γ) G)
      → Seq K 𝓛 (‵ (owned R p o) ∷ Γ) G
  either_held t a p None none one = feq_l t (λ e. none e refl)
  either_held t a p (Some x) none one =
      in_a_block t p (λ s. box_owns chunk R s x) (fst∗ 𝓤 (never 𝓤) (sem 𝓛 (chunk (bare (lone R.mir)) null_ptr)))
      (λ b i e. use1 𝓛 (given (Testable (block_ptr b i)) (‵ (box_owns chunk R (block_ptr b i) x))) (tested 𝓛 a (block_ptr b i) x) $
      learn t (λ m. one b i x e refl m))
