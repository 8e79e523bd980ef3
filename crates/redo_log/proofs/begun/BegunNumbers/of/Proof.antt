-- `of` makes the empty struct, with the numbers that its clause names. Assumes `Logic`.
use mathlib.Core.{Path.refl, List.[], List.◌∷◌}
use Rattle.std.proofs.Common.{◌<◌, ◌^◌, length}
use seplogic.Ra.Ura.{Ura}
use mir.{Val.Val, Val.vstruct, Val.vnil, Syntax.named}
use base.{Logic.SProp, Logic.ent, Logic.emp, Logic.via, Logic.fst∗, Fml.Fml}
use prog.{Memory.Memory, Routine.Routine, Wp.Calls, Wp.Loops, Wp.WpFn, Wp.Tables}
use types.Logic.{Logic}
use contract.{Lifetimes.Lfts, Lifetimes.Shares, Monad.Fun, Running.tables, Running.tables_of}
use sound.WpLaws.{WpFn-mono}
use types.Kit.{‵, raw, ◌$◌, ◌∵◌, !, qed, move, suffices, done}
use types.{Run.no_more, Run.returns, Run.enter, Part.agg}
use types.ByLocal.{alloc_all, pass_all, free_all, look_at, sets}
use denote.{Exit.yes, RattleType.owns, Builtin.u64, Slice.slice_val, Slice.shr_slice_vals, Slice.shr_slice_Tells, Shadow.pure_i}
use denote.{Signature.plain, Signature.types_at, Triple.Entry.on_entry, Triple.Entry.alive, Triple.Entry.Args, Triple.Spec.Meets}
use denote.{Triple.Spec.triple_of, Triple.Table.entered}
use denote.Triple.Walked.{says, Stays, walk_of, Walks, ends_at, walked, walk_Meets, stay_none_slice, Goes-none_slice}
use Rattle.redo_log.specs.contracts.begun.BegunNumbers.of.Key.{name as key}
use Rattle.redo_log.specs.contracts.begun.BegunNumbers.of as f
use Rattle.redo_log.proofs.begun.BegunNumbers.of.Statement as stated
use Rattle.redo_log.proofs.begun.BegunNumbers.of.Code as code
use Rattle.redo_log.specs.contracts.begun.BegunNumbers as begun

abbrev stayed : Stays (f.ended).signature.params (f.ended).kept
stayed = (stay_none_slice (0 ∷ []) tt (plain (λ _. u64)) yes, tt)

module _ {M : Type 1} {𝓤 : Ura M} (𝓛 : Logic 𝓤) (mem : Memory → SProp 𝓤) (run : Routine → Fun 𝓤) (C : Calls 𝓤 𝓛.H) (Λ : Loops 𝓤 𝓛.H) where
  open 𝓛 use {H}

  module _ (κs : Lfts 1) (qs : Shares 1) (a : Args f.signature κs) where
    abbrev looked_at : Val
    looked_at = slice_val a.0.ref_ptr (length a.0.now)

    abbrev bound : (walk_of 𝓛 f.ended stayed (f.clauses 𝓛 mem run)).Ghost
    bound = ((κs, qs, tt, a, (looked_at ∷ [], tt)), tt)

    abbrev passed : Fml
    passed = owns (types_at f.signature.params κs) a (looked_at ∷ [], tt)

    walk : length a.0.now < 2 ^ 64 → ent 𝓤 (on_entry 𝓛 f.signature κs qs a (looked_at ∷ [], tt))
        (WpFn 𝓤 H C Λ code.function (looked_at ∷ []) ((walk_of 𝓛 f.ended stayed (f.clauses 𝓛 mem run)).post bound))
    walk fits =
        qed 𝓛 (raw (alive 𝓛 f.signature κs qs) ∷ ‵ passed ∷ []) ∵ enter ! C Λ code.function (looked_at ∷ []) _ $
        alloc_all ! (λ l. pass_all ! refl ((tt, (tt, (record { fits = fits }, tt))), tt) $
        sets ! (agg ! (no_more !)) refl (tt, tt) $
        returns ! (look_at ! 0 refl) $ free_all ! refl $
        suffices ! _ (ends_at 𝓛 f.ended stayed (f.clauses 𝓛 mem run) bound (vstruct vnil) (record { numbers = a.0.now })
        (tt, tt) (tt, tt)) $
        says ! refl $ pure_i
        ! (begun.the_row.own_val (record { numbers = a.0.now }) (vstruct vnil ∷ [])) ((λ vss. (tt, tt)), tt)
        ((tt, (refl, tt)), tt) $
        move ! (1 ∷ 2 ∷ 0 ∷ []) $ done !)

  walks : Walks 𝓛 f.ended stayed (WpFn 𝓤 H C Λ code.function) (f.clauses 𝓛 mem run)
  walks =
      walked 𝓛 f.ended stayed (f.clauses 𝓛 mem run) (WpFn 𝓤 H C Λ code.function) (λ κs. (shr_slice_vals, tt))
      (λ κs. (shr_slice_Tells (named 0) κs.0 u64, tt))
      (λ κs qs bounds a g are. via 𝓤 _ (fst∗ 𝓤 _ (emp 𝓤)) (walk κs qs a are.0.0.1.0))

meets : {M : Type 1} {𝓤 : Ura M} (𝓛 : Logic 𝓤) (mem : Memory → SProp 𝓤) (run : Routine → Fun 𝓤) (𝓣 : Tables 𝓤 𝓛.H)
    → Meets 𝓛 f.signature (WpFn 𝓤 𝓛.H 𝓣.C 𝓣.Λ code.function) (f.spec 𝓛 mem run)
meets {𝓤 = 𝓤} 𝓛 mem run 𝓣 =
    walk_Meets 𝓛 f.ended stayed (Goes-none_slice 𝓛 1 (0 ∷ []) tt (plain (λ _. u64)) yes, tt)
    (f.clauses 𝓛 mem run) (WpFn 𝓤 𝓛.H 𝓣.C 𝓣.Λ code.function) (WpFn-mono 𝓤 𝓛.H 𝓛.laws 𝓣 code.function) (walks 𝓛 mem run 𝓣.C 𝓣.Λ)

pub of_spec : {M : Type 1} → stated.statement M
unfolding tables_of
of_spec 𝓤 𝓛 𝓜 𝓡 wired =
    entered 𝓤 𝓛.H (triple_of 𝓛 f.signature (f.spec 𝓛 𝓜.mem 𝓡.returns))
    (tables 𝓤 𝓛.H 𝓜 𝓡 𝓡.env).C (tables 𝓤 𝓛.H 𝓜 𝓡 𝓡.env).Λ key code.function (code.unfolded 𝓤 𝓛.H 𝓜 𝓡 wired)
    (meets 𝓛 𝓜.mem 𝓡.returns (tables_of 𝓤 𝓛.H 𝓜 (tables 𝓤 𝓛.H 𝓜 𝓡 𝓡.env)))
