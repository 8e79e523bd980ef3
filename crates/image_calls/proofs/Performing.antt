-- What the device does is what a call of a medium does.
use Rattle.std.proofs.Common.{◌≡◌, ◌<◌, ℕ, true, List, inr, refl, sym, subst, Ok, Err}
use Rattle.medium.specs.{Medium.{Stays, Holds, Within, Gains}, Performed.Performed}
use Rattle.medium.proofs.{SparedSectors.{spared_silent, spared_write}, SectorsRead.{look_below, write_looks, flush_looks}}
use Rattle.window.specs.{Story.{given, are_whole, is_whole}, Window.{Window, state_of, mirror_of, reads, misses, gives}}
use Rattle.window.specs.{WindowLaws.is_sound}
use Rattle.window.proofs.SectorsRead.{passes_read, looks_read, looks_missed, passes_given}
use Rattle.window.proofs.OneCall.{passes_missed, content_missed, sets_missed}
use Rattle.medium.specs.declared.medium_call.Call.TheVariants as call
use Rattle.medium.specs.declared.fault.MediumFault.TheVariants as kind
use Rattle.window.specs.declared.call.DeviceCall.TheVariants as device
use Rattle.window.proofs.OutboxCalls as asked

-- a sector was read, and the device holds these bytes there
pub read_performed : (n : Window) (place : ℕ) (bytes got : List ℕ) → got ≡ (state_of n).content place
    → Performed (call.Read place) bytes got (Ok tt) (state_of n) (state_of (reads n place))
read_performed n place bytes got honest =
    let m = mirror_of n in
    let passes = passes_read n (reads n place) place refl in
    let stays : Stays (state_of n).content (state_of (reads n place)).content = asked.quiet_content m in
    let within : Within (state_of (reads n place)).may_leave (state_of n).may_leave = asked.quiet_sets m in
    let named = looks_read n (reads n place) place refl in
    record {
      done = honest;
      changes = stays;
      adds = within;
      passes = passes;
      spares = λ first inside. spared_silent first (state_of n) (state_of (reads n place)) (is_sound n) passes stays within;
      looks = λ end below. look_below end (state_of n) (state_of (reads n place)) place below named;
      names = named;
    }

-- the device refused to read one
pub read_refused : (n : Window) (place : ℕ) (bytes got : List ℕ)
    → Performed (call.Read place) bytes got (Err kind.Read) (state_of n) (state_of (misses n place))
read_refused n place bytes got =
    let passes = passes_missed n (misses n place) place refl in
    let stays = content_missed n (misses n place) place refl in
    let within = sets_missed n (misses n place) place refl in
    let named = looks_missed n (misses n place) place refl in
    record {
      done = tt;
      changes = stays;
      adds = within;
      passes = passes;
      spares = λ first inside. spared_silent first (state_of n) (state_of (misses n place)) (is_sound n) passes stays within;
      looks = λ end below. look_below end (state_of n) (state_of (misses n place)) place below named;
      names = named;
    }

-- a sector was given to it
pub write_performed : (n : Window) (place : ℕ) (bytes : List ℕ) → are_whole (given n.seen.told.asked) ≡ true
    → is_whole (device.Write (record { sector = place; block = bytes })) ≡ true
    → Performed (call.Write place) bytes bytes (Ok tt) (state_of n)
    (state_of (gives n (device.Write (record { sector = place; block = bytes }))))
write_performed n place bytes whole one =
    let now = gives n (device.Write (record { sector = place; block = bytes })) in
    let m = mirror_of n in
    let passes = passes_given n now (device.Write (record { sector = place; block = bytes })) refl whole one in
    let holds : Holds place bytes (state_of n).content (state_of now).content = asked.written m place bytes in
    let gains : Gains place bytes (state_of n).may_leave (state_of now).may_leave =
    λ s c left. asked.given_sets m (device.Write (record { sector = place; block = bytes })) s c left in
    record {
      done = holds;
      changes = inr holds;
      adds = gains;
      passes = passes;
      spares = λ first below. spared_write first (state_of n) (state_of now) place bytes (is_sound n) below passes gains (inr holds);
      looks = λ end below. write_looks (λ s. s < end) (state_of n) (state_of now) passes;
      names = write_looks _ (state_of n) (state_of now) passes;
    }

-- a flush was given to it
pub flush_performed : (n : Window) (bytes : List ℕ) → are_whole (given n.seen.told.asked) ≡ true
    → Performed call.Flush bytes bytes (Ok tt) (state_of n) (state_of (gives n device.Flush))
flush_performed n bytes whole =
    let now = gives n device.Flush in
    let m = mirror_of n in
    let passes = passes_given n now device.Flush refl whole refl in
    let stays : Stays (state_of n).content (state_of now).content = asked.given_content m device.Flush in
    let within : Within (state_of now).may_leave (state_of n).may_leave =
    λ s c left. subst (λ b. (state_of n).may_leave s b) (sym (asked.given_sets m device.Flush s c left)) ((is_sound n).holds_content s) in
    record {
      done = (stays, asked.given_sets m device.Flush);
      changes = stays;
      adds = within;
      passes = passes;
      spares = λ first inside. spared_silent first (state_of n) (state_of now) (is_sound n) passes stays within;
      looks = λ end below. flush_looks (λ s. s < end) (state_of n) (state_of now) passes;
      names = flush_looks _ (state_of n) (state_of now) passes;
    }
