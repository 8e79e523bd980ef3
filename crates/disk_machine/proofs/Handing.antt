-- A machine whose disk is as it was but for its medium: calls leave the outbox, and are under way.
use Rattle.std.proofs.Common.{◌≡◌, ℕ, sym, ◌∙◌, ap, subst, inl, inr, arith, ◌≤◌, length, List, refl}
use Rattle.logical_blocks.specs.Book.{Book}
use Rattle.window.specs.{Window.{state_of, Window}, declared.{call.DeviceCall.{TheVariants.Flush}, ask.DeviceRead.DeviceRead}}
use Rattle.window.specs.declared.{ask.DeviceAsk.DeviceAsk, asked.Asked.Asked}
use Rattle.scsi_unit.specs.Background.{is_dead}
use Rattle.bot_machine.specs.{DiskValue.DiskValue, LaggingDisk.{held_book}}
use Rattle.disk_machine.specs.{Plays.{Disk, is_faulted, medium_of}, Machine.{Machine, has_refused, carried, under_way}}
use Rattle.disk_machine.specs.{Moves.{LeavesNoMore, StaysSafe}, Asking.{AsksFor, HandsOut}, Refused.KeepsRest, declared.lack.Lack.Lack}
use Rattle.store_calls.proofs.{Handing.{run_waits, some_first, some_go, taken_by}, Standing.{IsSentStill, same_sent}}
use Rattle.window.specs.declared.ask.DeviceAsk.TheVariants as ask
use Rattle.window.specs.declared.asked.Asked.TheVariants as asked

pub record Stands (old new : Machine) : Type 0 where
  pub rest : KeepsRest old.disk new.disk
  pub size : (state_of (medium_of new.disk)).size ≡ (state_of (medium_of old.disk)).size
  pub room : (medium_of new.disk).room ≡ (medium_of old.disk).room
  pub leaves : LeavesNoMore old new

module _ (old new : Disk) (rest : KeepsRest old new) where
  pub same_life : is_faulted new ≡ is_faulted old
  same_life = ap (λ (d : DiskValue Window). is_dead d.unit.store.cached) rest.others

  pub same_held : (book : Book) → held_book new book ≡ held_book old book
  same_held book = λ i. held_book (record {
    disk = record old.disk { line = ap (λ (d : DiskValue Window). d.line) rest.others i };
    pending = rest.pending i;
  }) book

module _ (old new : Machine) (stands : Stands old new) where
  -- a call that is no event
  pub stays_safe : has_refused new.asked ≡ has_refused old.asked → new.most ≡ old.most → StaysSafe old new
  stays_safe same most = record {
    serves = λ book c serves. record {
      stands = stands.rest.stands book c serves.stands;
      keeps = λ ours image left.
          rw (stands.size, same_life old.disk new.disk stands.rest, same_held old.disk new.disk stands.rest book)
          (serves.keeps ours image (stands.leaves image left));
      faulted = λ refused. same_life old.disk new.disk stands.rest ∙ serves.faulted (sym same ∙ refused);
    };
    leaves = stands.leaves;
    goes_on = record {
      room = λ fits. record { steps = omega (arith, most, stands.room, fits.steps) };
      dead = λ dead. (stands.leaves, same_life old.disk new.disk stands.rest ∙ dead);
    };
  }

-- ---- calls leave the outbox

-- a device that told no fewer done leaves no more
pub leaves_no_more : (old new : Machine) → IsSentStill (medium_of old.disk) (medium_of new.disk) → carried old ≤ carried new
    → LeavesNoMore old new
leaves_no_more old new same reaches image left = record {
  count = left.count;
  done = left.done;
  reaches = omega (arith, left.reaches, reaches);
  are = rw (sym same.sent) left.are;
  cut = rw (sym same.opening) left.cut;
}

-- a disk that is as it was but for its medium
pub sent_stands : (old new : Machine) → KeepsRest old.disk new.disk → IsSentStill (medium_of old.disk) (medium_of new.disk)
    → carried old ≤ carried new → Stands old new
sent_stands old new rest same reaches =
    record { rest = rest; size = same.size; room = same.room; leaves = leaves_no_more old new same reaches }

pub none_yet : (disk : Disk) → KeepsRest disk disk
none_yet disk = record { others = refl; pending = refl; stands = λ book c stands. stands }

-- the disk stays, and the device told no fewer done
pub stays : (old new : Machine) → new.disk ≡ old.disk → carried old ≤ carried new → Stands old new
stays old new same reaches =
    sent_stands old new (rw same (none_yet old.disk)) (rw same (same_sent (medium_of old.disk))) reaches

-- what is to be read changes nothing else
pub reading_safe : (s : Machine) (lacks : Lack) → StaysSafe s (record s { lack = lacks })
reading_safe s lacks = stays_safe s (record s { lack = lacks }) (stays s (record s { lack = lacks }) refl (omega arith)) refl refl

pub same_safe : (old new : Machine) → new ≡ old → StaysSafe old new
same_safe old new same = rw same (reading_safe old old.lack)

-- calls that left the outbox are under way
handed_safe : (old new : Machine) (count : ℕ) → HandsOut old count new → count ≤ length (medium_of old.disk).outbox → StaysSafe old new
handed_safe old new count hands le =
    let stands = sent_stands old new hands.rest (rw hands.gone (some_go count (medium_of old.disk))) (omega (
      arith,
      ap under_way hands.free,
      ap (λ (s : Machine). under_way s.asked) hands.others,
      taken_by count (medium_of old.disk) le,
      ap (λ (w : Window). length w.seen.told.taken) hands.gone,
    )) in
    stays_safe old new stands
    (ap (λ (s : Machine). has_refused s.asked) hands.others ∙ sym (ap (λ (a : Asked). has_refused a) hands.free))
    (ap (λ (s : Machine). s.most) hands.others)

-- the device is asked to read
reads_safe : (old new : Machine) (home : DeviceRead) (lacks : Lack) → old.asked ≡ asked.Nothing
    → new ≡ record old { asked = asked.Read home; lack = lacks } → StaysSafe old new
reads_safe old new home lacks free is = subst (λ (s : Machine). StaysSafe old s) (sym is)
    (stays_safe old (record old { asked = asked.Read home; lack = lacks })
    (stays old (record old { asked = asked.Read home; lack = lacks }) refl (omega (arith, ap under_way free)))
    (sym (ap (λ (a : Asked). has_refused a) free)) refl)

-- the device is asked for the next
pub asks_safe : (old new : Machine) (room : List ℕ) (what : DeviceAsk) (filled : List ℕ) → AsksFor old room what new filled
    → StaysSafe old new
asks_safe old new room ask.Nothing filled asks = same_safe old new asks.1
asks_safe old new room (ask.Write first count) filled asks =
    handed_safe old new count asks.0 (run_waits (medium_of old.disk) (medium_of new.disk) first count room filled asks.2.run)
asks_safe old new room ask.Flush filled asks = handed_safe old new 1 asks.0 (some_first (medium_of old.disk).outbox Flush asks.1)
asks_safe old new room (ask.Read home) filled asks = elim asks.2 [
  | inl lacked ↦ reads_safe old new home _ asks.0 lacked.1
  | inr ahead ↦ reads_safe old new home old.lack asks.0 ahead.3
]

-- ---- calls leave the outbox of a disk, and nothing else of it changes

pub one_more : (old mid new : Disk) → KeepsRest old mid → KeepsRest mid new → KeepsRest old new
one_more old mid new first second = record {
  others = second.others ∙ ap (λ (d : DiskValue Window). record d {
    unit = record d.unit {
      store = record d.unit.store { medium = medium_of new };
    };
  }) first.others;
  pending = second.pending ∙ first.pending;
  stands = λ book c stands. second.stands book c (first.stands book c stands);
}
