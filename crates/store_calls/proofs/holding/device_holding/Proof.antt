-- Any device has these bytes, which no memory content. Assumes `Logic`.
use Rattle.std.proofs.{Common.{◌≡◌, List, [], ◌∷◌, ◌++◌, refl, ap, subst, w8}, raw_atomic.Walks.proved}
use mir.Val.{Val, vstruct, vcons, vint, vnil, of_list}
use base.Logic.{id⊢}
use base.Fml.{ftrue}
use contract.Monad.{fact}
use contract.Running.{tables}
use types.Kit.{‵, raw, ◌⊛◌, some, later, ◌$◌, ◌∵◌, !, qed, drop, use1, split, pick, await, suffices, done}
use types.Run.{enter, no_more, returns}
use types.ByLocal.{alloc_all, pass_all, free_all, look_at, lands_as}
use denote.Shadow.{pure_i, pure_l}
use denote.Steps.{nothing, heard, only}
use denote.Triple.Call.{calls_at}
use denote.Triple.Clauses.{lasts}
use denote.Triple.Spec.{triple_of}
use denote.Triple.Walked.{Stays, says, ends_at}
use denote.Triple.Table.{framed}
use Rattle.window.specs.{declared.holds.DeviceHolds.DeviceHolds}
use Rattle.window.proofs.{holds.DeviceHolds.any.Met.met}
use Rattle.store_calls.proofs.{holding.device_holding.Statement.statement}
use Rattle.window.specs.contracts.holds.DeviceHolds as made
use Rattle.window.specs.contracts.holds.DeviceHolds.any as g
use Rattle.store_calls.specs.contracts.holding.device_holding as f
use Rattle.store_calls.proofs.holding.device_holding.Code as code

abbrev stayed : Stays f.ended.signature.params f.ended.kept
stayed = tt

pub device_holding_spec : {M : Type 1} → statement M
device_holding_spec 𝓤 𝓛 𝓜 𝓡 wired =
    let c = f.clauses 𝓛 𝓜.mem 𝓡.returns in
    proved 𝓛 f.ended stayed c 𝓜 𝓡 tt f.Key.name code.function (code.unfolded 𝓤 𝓛.H 𝓜 𝓡 wired)
    (λ κs. tt) (λ κs. tt) (λ κs qs bounds a content are.
    let G = triple_of 𝓛 g.signature (g.spec 𝓛 𝓜.mem 𝓡.returns) in
    let z : G.Ghost = ((κs, qs, bounds, a, tt), tt) in
    qed 𝓛 (raw (G.pre z) ∷ []) ∵ enter ! _ _ _ _ _ $ alloc_all ! (λ l. pass_all ! refl tt $
    calls_at ! (framed 𝓤 𝓛.H 𝓜 (tables 𝓤 𝓛.H 𝓜 𝓡 𝓡.env)) G (met 𝓤 𝓛 𝓜 𝓡 (code.calls-window::holds::DeviceHolds::any 𝓡.env wired)) z
    (no_more !) (λ v.
    use1 𝓛 (later (some (λ (r : DeviceHolds). (‵ ftrue ⊛ ‵ (made.the_row.own_val r (v ∷ []))) ⊛
    some (λ (ws : Unit {0}). ‵ (lasts g.ended κs a ws) ⊛ raw (fact 𝓤 (r ≡ r)))))) (id⊢ 𝓤 _) $
    await ! tt $ pick ! (λ r. split ! $ split ! $ drop ! $ pure_l ! (made.the_row.own_val r (v ∷ [])) (λ p.
    let w : Val = vstruct (vcons (vint w8 r.mark) vnil) in
    let e : v ∷ [] ≡ w ∷ [] =
    subst (λ (ps : List Val). v ∷ [] ≡ vstruct (of_list (ps ++ [])) ∷ []) p.0.1.1.0.0 p.0.1.0 in
    pick ! (λ ws. split ! $ drop ! $ heard ! _ (λ _.
    lands_as ! (ap only e) refl (tt, (record { fits = p.0.1.1.0.1 }, tt)) $
    returns ! (look_at ! 0 refl) $ free_all ! refl $
    suffices ! _ (ends_at 𝓛 f.ended stayed c ((κs, qs, bounds, a, tt), content) w (record { mark = r.mark; bytes = content }) tt tt) $
    says ! refl $ pure_i ! (made.the_row.own_val (record { mark = r.mark; bytes = content }) (w ∷ []))
    ((λ vss. (tt, ((tt, tt), tt))), tt) (((vint w8 r.mark ∷ [], tt), (refl, ((refl, p.0.1.1.0.1), tt))), tt) $
    nothing ! $ nothing ! $ done !)))))))
