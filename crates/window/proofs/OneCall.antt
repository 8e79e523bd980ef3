-- One call more of a medium that reads on demand.
use Rattle.std.proofs.Common.{◌≡◌, ◌≤◌, ℕ, true, false, [], ◌∷◌, ◌++◌, length, Result, Ok, Err, None, refl, rules, length-append}
use Rattle.std.proofs.lemmas.List.{append-nil}
use Rattle.medium.specs.Medium.{Passes, Stays, Within}
use Rattle.medium.specs.declared.fault.MediumFault.{MediumFault}
use Rattle.medium.specs.declared.fault.MediumFault.TheVariants as fault
use Rattle.window.specs.Device.{Device, carried_out}
use Rattle.window.specs.OutboxMedium.{device_of}
use Rattle.window.specs.Story.{kind_of, given, are_whole, is_whole}
use Rattle.window.specs.declared.call.DeviceCall.{DeviceCall}
use Rattle.window.specs.Seen.{Seen, gave}
use Rattle.window.specs.Window.{Window, mirror_of, state_of, is_in_sight, reads, misses, gives, refuses, ComesAfter}
use Rattle.window.proofs.OutboxCalls.{one_moment_more, quiet_content, quiet_sets, given_content, given_sets}
use Rattle.window.proofs.SectorsRead.{others, same_size, passes_read, passes_refused, passes_given}

-- the value of a medium whose story went on
pub seen_on : (step : Seen → Seen) (was now : Window) (seen : Seen) → seen ≡ step was.seen → was ≡ now
    → record was { seen = seen } ≡ record now { seen = step now.seen }
seen_on step was now seen is same = rw (is, same) refl

pub given_on : (call : DeviceCall) (was now new : Window) → new.seen ≡ gave was.seen call → new.outbox ≡ was.outbox ++ call ∷ []
    → new.room ≡ was.room → new.near ≡ was.near → new.from ≡ was.from → new.held ≡ was.held → new.span ≡ was.span → was ≡ now
    → new ≡ gives now call
given_on call was now new seen outbox room near from held span same = rw (← same, seen, outbox, room, near, from, held, span) refl

module _ (now new : Window) (s : ℕ) where
  pub passes_missed : new ≡ misses now s → Passes fault.Read (Err fault.Read) (state_of now) (state_of new)
  passes_missed e =
      let left = one_moment_more now.seen.told (misses now s).seen.told None refl refl in
      let same = same_size now.seen.told (misses now s).seen.told refl refl in
      rw e (search (rules, left, same, others, length-append))

  pub content_missed : new ≡ misses now s → Stays (state_of now).content (state_of new).content
  content_missed e = rw e (quiet_content (mirror_of now))

  pub sets_missed : new ≡ misses now s → Within (state_of new).may_leave (state_of now).may_leave
  sets_missed e = rw e (quiet_sets (mirror_of now))

-- a call that passes, of a device that holds this then
pub record Leaves (device : Device) (kind : MediumFault) (result : Result (Unit {0}) MediumFault) (now new : Window) : Type 0 where
  pub content : Stays device.content (state_of new).content
  pub sets : Within (state_of new).may_leave device.may_leave
  pub passes : Passes kind result (state_of now) (state_of new)
  pub follows : ComesAfter now new

module _ (now new : Window) where
  abbrev device : Device
  device = device_of now.seen.told

  pub read_leaves : (s : ℕ) → new ≡ reads now s → Leaves device fault.Read (Ok tt) now new
  read_leaves s e = rw e (record {
    content = quiet_content (mirror_of now);
    sets = quiet_sets (mirror_of now);
    passes = passes_read now (reads now s) s refl;
    follows = search (rules, append-nil);
  })

  pub missed_leaves : (s : ℕ) → new ≡ misses now s → is_in_sight now s ≡ false → Leaves device fault.Read (Err fault.Read) now new
  missed_leaves s e not = rw e (record {
    content = quiet_content (mirror_of now);
    sets = quiet_sets (mirror_of now);
    passes = passes_missed now (misses now s) s refl;
    follows = search (rules, append-nil);
  })

  pub refused_leaves : (call : DeviceCall) → new ≡ refuses now call → now.room ≤ length now.outbox
      → Leaves device (kind_of call) (Err (kind_of call)) now new
  refused_leaves call e full = rw e (record {
    content = quiet_content (mirror_of now);
    sets = quiet_sets (mirror_of now);
    passes = passes_refused now (refuses now call) call refl;
    follows = search (rules, append-nil);
  })

  pub given_leaves : (call : DeviceCall) → new ≡ gives now call → are_whole (given now.seen.told.asked) ≡ true → is_whole call ≡ true
      → Leaves (carried_out device call) (kind_of call) (Ok tt) now new
  given_leaves call e whole one = rw e (record {
    content = given_content (mirror_of now) call;
    sets = given_sets (mirror_of now) call;
    passes = passes_given now (gives now call) call refl whole one;
    follows = search (rules, append-nil);
  })
