-- `of` makes the empty struct, and the story is told. Assumes `Logic`.
use Rattle.std.proofs.Common.{[], ◌∷◌, ◌++◌, refl, ◌∙◌, List}
use seplogic.Ra.Ura.{Ura}
use mir.Val.{Val, vptr, vstruct, vnil}
use base.Logic.{SProp, ent}
use prog.Memory.{Memory}
use prog.Routine.{Routine}
use prog.Wp.{Calls, Loops, WpFn, Tables}
use contract.Monad.{Fun}
use contract.Running.{tables, tables_of}
use sound.WpLaws.{WpFn-mono}
use types.Logic.{Logic}
use types.Kit.{‵, raw, ◌⊛◌, prop, ◌$◌, ◌∵◌, !, qed, move, keep, drop, split, fsplit, fjoin, feq_l, regoal, suffices, done}
use types.Part.{agg}
use types.Run.{enter, returns, no_more}
use types.ByLocal.{alloc_all, pass_all, free_all, look_at, sets}
use denote.Exit.{yes}
use denote.RattleType.{owns}
use denote.Builtin.{RefOf}
use denote.Shadow.{pure_i}
use denote.Signature.{plain, named_lft, types_at}
use denote.Steps.{nothing}
use denote.Triple.Clauses.{Clauses, closing}
use denote.Triple.Entry.{alive}
use denote.Triple.Spec.{Meets, triple_of}
use denote.Triple.Table.{entered}
use denote.Triple.Walked.{says, Stays, stay_dropped, walk_of, ends_at, walk_Meets, Goes-dropped}
use Rattle.medium.specs.FileStory.{noted}
use Rattle.medium.proofs.Noted.{just_opened, looks_stay}
use Rattle.medium.specs.Telling.{IsToldBy}
use Rattle.medium.specs.declared.file_story.Story.{Story}
use Rattle.medium.specs.declared.file_story.Telling.{Telling}
use Rattle.medium.specs.declared.file_story.Telling.TheVariants.{Nothing, Noted}
use Rattle.medium.specs.contracts.file_story.Telling as telling
use Rattle.medium.specs.contracts.file_story.Story as story
use Rattle.medium.specs.contracts.file_story.Story.of as f
use Rattle.medium.specs.contracts.file_story.Story.of.Key.{name as key}
use Rattle.medium.proofs.file_story.Story.of.Statement as stated
use Rattle.medium.proofs.file_story.Story.of.Code.{function, unfolded}

abbrev made_of : Telling → Story
made_of Nothing = record { told = just_opened; any = refl }
made_of (Noted story answered bytes) = record {
  told = noted answered.now bytes.now story.now.told;
  any = looks_stay answered.now bytes.now story.now.told ∙ story.now.any;
}

made_tells : (telling : Telling) → IsToldBy telling (made_of telling).told
made_tells Nothing = refl
made_tells (Noted story answered bytes) = refl

abbrev stayed : Stays f.ended.signature.params f.ended.kept
stayed = (stay_dropped (RefOf (0 ∷ []) tt (plain (λ κs. telling.the_row (named_lft 2 1 tt κs))) (λ _. tt)) yes, tt)

module _ {M : Type 1} {𝓤 : Ura M} (𝓛 : Logic 𝓤) (at_mem : Memory → SProp 𝓤) (run : Routine → Fun 𝓤) where
  open 𝓛 use {H}

  abbrev held : Clauses 𝓤 f.ended
  held = f.clauses 𝓛 at_mem run

  module _ (C : Calls 𝓤 H) (Λ : Loops 𝓤 H) (z : (walk_of 𝓛 f.ended stayed held).Ghost) where
    abbrev Post : Val → SProp 𝓤
    Post = (walk_of 𝓛 f.ended stayed held).post z

    walks : ent 𝓤 ((walk_of 𝓛 f.ended stayed held).pre z) (WpFn 𝓤 H C Λ function ((walk_of 𝓛 f.ended stayed held).args z) Post)
    walks =
        let a = z.0.3 in
        let made : story.the_row.Denot = made_of a.0.now in
        qed 𝓛 ((raw (alive 𝓛 f.ended.signature z.0.0 z.0.1) ⊛ ‵ (owns (types_at f.ended.signature.params z.0.0) a z.0.4))
        ∷ raw ((held z.0.0 a).requires z.1) ∷ []) ∵
        keep ! (0 ∷ []) $ split ! $ move ! (1 ∷ []) $ fsplit ! $ fsplit ! $ feq_l ! (λ is₀. drop ! $ drop ! $
        let p = vptr a.0.ref_ptr.0 a.0.ref_ptr.1 in
        regoal ! (λ (us : List Val). prop (WpFn 𝓤 H C Λ function (us ++ []) Post)) is₀ refl $
        enter ! C Λ function (p ∷ []) Post $ alloc_all ! (λ l. pass_all ! refl ((tt, tt), tt) $
        sets ! (agg ! (no_more !)) refl (tt, tt) $ returns ! (look_at ! 0 refl) $ free_all ! refl $
        suffices ! _ (ends_at 𝓛 f.ended stayed held z (vstruct vnil) made (tt, tt) (tt, tt)) $ says ! (made_tells a.0.now) $
        pure_i ! (story.the_row.own_val made (vstruct vnil ∷ [])) ((λ vss. (tt, tt)), tt) ((tt, (refl, tt)), tt) $
        nothing ! $ nothing ! $ fjoin ! $ move ! (2 ∷ 0 ∷ 1 ∷ []) $ done !))

  meets : (𝓣 : Tables 𝓤 H) → Meets 𝓛 f.ended.signature (WpFn 𝓤 H 𝓣.C 𝓣.Λ function) (closing 𝓛 f.ended held)
  meets 𝓣 =
      walk_Meets 𝓛 f.ended stayed (
        Goes-dropped 𝓛 2 (RefOf (0 ∷ []) tt (plain (λ κs. telling.the_row (named_lft 2 1 tt κs))) (λ _. tt)) yes (λ κs x f. refl),
        tt,
      )
      held (WpFn 𝓤 H 𝓣.C 𝓣.Λ function) (WpFn-mono 𝓤 H 𝓛.laws 𝓣 function) (walks 𝓣.C 𝓣.Λ)

pub of_spec : {M : Type 1} → stated.statement M
unfolding tables_of
of_spec 𝓤 𝓛 𝓜 𝓡 wired =
    let 𝓣 : Tables 𝓤 𝓛.H = tables_of 𝓤 𝓛.H 𝓜 (tables 𝓤 𝓛.H 𝓜 𝓡 𝓡.env) in
    entered 𝓤 𝓛.H (triple_of 𝓛 f.ended.signature (closing 𝓛 f.ended (held 𝓛 𝓜.mem 𝓡.returns))) 𝓣.C 𝓣.Λ key function
    (unfolded 𝓤 𝓛.H 𝓜 𝓡 wired) (meets 𝓛 𝓜.mem 𝓡.returns 𝓣)
