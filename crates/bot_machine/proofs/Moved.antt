-- What is done to a disk and to its medium, one action after another.
use Rattle.std.proofs.Common.{◌≡◌, ◌<◌, Bool, true, false, List, [], ◌∷◌, ◌++◌, refl, sym, subst, ◌∙◌, ap, arith, append_assoc, ℕ, ◌+◌, ◌≤◌}
use Rattle.std.proofs.{Common.{if◌then◌else◌, Some}, lemmas.Bool.{lt-ltb, le-ltb}, lemmas.List.append-nil, lemmas.List.Sums.sum_by-append}
use Rattle.bot_machine.specs.{Device.Device, declared.lives.disk_state.DiskState.DiskState, Moving.{state_in, Does, MovesBy}}
use Rattle.bot_machine.specs.{LivesValue.{is_fault, faults_armed, AreCaused}, Lifetimes.causes_in}
use Rattle.scsi_unit.specs.Serving.{has_refused}
use Rattle.bot_machine.proofs.Runs.{refused_events-append}
use Rattle.medium.specs.{Medium.State, Power.faults_in, Sim.{Sim, state_of, ComesAfter}}
use Rattle.spec.specs.{declared.event.Answer.Answer, Lives.Action, Conversation.refused_events}
use Rattle.medium.proofs.SimCalls.{keeps_power}

-- where no more calls were refused, none was
pub none_refused : (before after : State) → after.failures ≡ before.failures → false ≡ has_refused before after
none_refused before after same = sym (le-ltb before.failures after.failures (omega (arith, same)))

-- where more calls were refused, one was
pub some_refused : (before after : State) → before.failures < after.failures → has_refused before after ≡ true
some_refused before after grew = lt-ltb before.failures after.failures grew

-- one action
pub one_move : (device : Device) (refused : Bool) (old new : DiskState) (action : Action) (answers : List Answer)
    → Does device old action answers new → refused ≡ has_refused (state_in old) (state_in new)
    → MovesBy device old (action ∷ []) answers (refused ∷ []) new
one_move device refused old new action answers does counted =
    (new, answers, [], sym (append-nil answers), record { does = does; counted = counted }, (refl, refl))

-- some actions, and then others
pub MovesBy-append : (device : Device) (xs ys : List Action) (told more : List Answer) (refusals others : List Bool)
    (a b c : DiskState) → MovesBy device a xs told refusals b → MovesBy device b ys more others c
    → MovesBy device a (xs ++ ys) (told ++ more) (refusals ++ others) c
MovesBy-append device [] ys told more [] others a b c r s = rw (r.0, ← r.1) s
MovesBy-append device (x ∷ xs) ys told more (refused ∷ refusals) others a b c r s = (
  r.0,
  r.1,
  r.2 ++ more,
  ap (λ (l : List Answer). l ++ more) r.3 ∙ append_assoc r.1 r.2 more,
  r.4,
  MovesBy-append device xs ys r.2 more refusals others r.0 b c r.5 s,
)
MovesBy-append device xs ys told more refusals others a b c r s = absurd r

-- faults that actions arm are counted one list after the other
faults_armed-append : (xs ys : List Action) → faults_armed (xs ++ ys) ≡ faults_armed xs + faults_armed ys
faults_armed-append xs ys = sum_by-append (λ (action : Action). if is_fault action then 1 else 0) xs ys

one_refused : (refused : Bool) → refused_events (refused ∷ []) ≡ (if refused then 1 else 0)
one_refused refused = grind arith

-- calls of a medium whose power is on, whatever action makes them
pub caused_once : (before after : Sim) (actions : List Action) → ComesAfter before after → before.power.off ≡ false
    → AreCaused before actions (has_refused (state_of before) (state_of after) ∷ []) after
caused_once before after actions follows on =
    let h = (keeps_power before after follows).uses_up on in
    omega (arith, one_refused (has_refused (state_of before) (state_of after)), h)

-- one action after another
pub caused_through : (a b c : Sim) (xs ys : List Action) (refusals others : List Bool) → AreCaused a xs refusals b
    → AreCaused b ys others c → AreCaused a (xs ++ ys) (refusals ++ others) c
caused_through a b c xs ys refusals others h k = omega (arith, refused_events-append refusals others, faults_armed-append xs ys, h, k)

-- told by the causes that no action armed
pub few_causes : (before after : Sim) (actions : List Action) (refusals : List Bool) → AreCaused before actions refusals after
    → refused_events refusals ≤ causes_in before actions after
few_causes before after actions refusals h = omega (arith, h)

-- a medium on which a fuse was armed has one fault more at most
pub one_fuse_more : (writes : ℕ) (m : Sim) → faults_in (record m.power { fuse = Some writes }) ≤ faults_in m.power + 1
one_fuse_more writes m = grind arith

-- what each action keeps, actions keep one after another
pub moves_keep : (device : Device) (P : DiskState → Type 0)
    → ((old new : DiskState) (action : Action) (answers : List Answer) → Does device old action answers new → P old → P new)
    → (old new : DiskState) (actions : List Action) (answers : List Answer) (refusals : List Bool)
    → MovesBy device old actions answers refusals new → P old → P new
moves_keep device P each old new [] answers [] moves has = subst P (sym moves.1) has
moves_keep device P each old new (action ∷ actions) answers (refused ∷ refusals) moves has =
    moves_keep device P each moves.0 new actions moves.2 refusals moves.5 (each old moves.0 action moves.1 moves.4.does has)
moves_keep device P each old new actions answers refusals moves has = absurd moves
