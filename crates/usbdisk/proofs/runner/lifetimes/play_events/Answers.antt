use Rattle.std.proofs.Common.{◌≡◌, ◌∷◌, [], ◌++◌, ◌∙◌, ap, sym, subst, append_assoc, append-nil, List, ℕ, refl}
use Rattle.std.proofs.{lemmas.List.Concat.flat_map-cons, lemmas.List.Elements.All-rest, lemmas.Result.err_from_is_err_and}
use Rattle.std.specs.Prelude.{flat_map}
use Rattle.bot_machine.specs.{Device.Device, Fitting.{IsWithin, AreWithin}}
use Rattle.spec.specs.{declared.event.Event.Event, Lives.Action}
use Rattle.usbdisk.specs.{runner.Events.events_of, runner.Lifetimes.comes}
use Rattle.usbdisk.proofs.{LifeActions.{tells-none, tells-more, breaks-more}, Within.next_within}
use Rattle.usbdisk.proofs.runner.lifetimes.play_events.Goals as goal

-- what all events do, where these have come, this one comes, and these are left
parted : (all before : List Action) (events left : List Event) (event : Event) → all ≡ before ++ flat_map comes events
    → events ≡ event ∷ left → all ≡ before ++ (comes event ++ flat_map comes left)
parted all before events left event so next =
    so ∙ ap (λ (l : List Action). before ++ l) (ap (flat_map comes) next ∙ flat_map-cons comes event left)

pub loop-event-init : goal.loop-event-init
loop-event-init g c =
    let same = c.into_iter-event-iterator.ensures.into_iter_gives in
    record {
      so_far = (
        [],
        ap (λ asked. flat_map comes (events_of asked)) (sym same),
        tells-none (g.W.Write.contents c.args.out.now) c.args.lives.now,
      );
      within = subst (λ asked. AreWithin c.args.lives.now.device.packet_size (events_of asked)) (sym same) c.requires;
    }

pub play_event-requires : goal.play_event-requires
play_event-requires g c =
    let stays = ap (λ (d : Device). d.packet_size) c.loop-event.invariant.so_far.2.acted.goes_on.device_stays in
    subst (λ (most : ℕ). IsWithin most c.in-Some.event) (sym stays)
    (next_within c.args.lives.now.device.packet_size [] _ _ (events_of c.next.new.self) c.in-Some.event refl
    c.in-Some.ensures.steps c.loop-event.invariant.within)

pub loop-event-preserved : goal.loop-event-preserved
loop-event-preserved g c =
    let so = c.loop-event.invariant.so_far in
    let event = c.in-Some.event in
    let left = events_of c.next.new.self in
    record {
      so_far = (
        so.0 ++ comes event,
        parted (flat_map comes (events_of c.args.asked)) so.0 (events_of c.loop-event.event-iterator) left event so.1
            c.in-Some.ensures.steps ∙ sym (append_assoc so.0 (comes event) (flat_map comes left)),
        tells-more so.2 c.in_ok-play_event.ensures.played,
      );
      within = All-rest (IsWithin c.args.lives.now.device.packet_size) event left (events_of c.loop-event.event-iterator)
          c.in-Some.ensures.steps c.loop-event.invariant.within;
    }

pub returns-in_err-play_event-clause-broken : goal.returns-in_err-play_event-clause-broken
returns-in_err-play_event-clause-broken g c =
    let so = c.loop-event.invariant.so_far in
    let left = events_of c.next.new.self in
    let all = parted (flat_map comes (events_of c.args.asked)) so.0 (events_of c.loop-event.event-iterator) left c.in-Some.event so.1
    c.in-Some.ensures.steps in
    let p = err_from_is_err_and c.from_residual.result c.from_residual.ensures.1 in
    rw (p.1, p.2, all) (breaks-more so.2 c.in_err-play_event.ensures.broken (flat_map comes left))

pub returns-clause-played : goal.returns-clause-played
returns-clause-played g c =
    let so = c.loop-event.invariant.so_far in
    rw (so.1 ∙ ap (λ (l : List Event). so.0 ++ flat_map comes l) c.in-None.ensures.steps.0 ∙ append-nil so.0) so.2
