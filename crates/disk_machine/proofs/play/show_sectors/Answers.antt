-- A disk to whose medium sectors were shown as the device holds them.
use Rattle.std.proofs.{Common.{◌≡◌, inl, inr, ℕ, Bool, List, [], Option, Some, None, ap}, lemmas.Bool.cases_Bool}
use Rattle.medium.{specs.Medium.State, proofs.Moments.{unchanged}}
use Rattle.logical_blocks.specs.Book.{Book}
use Rattle.scsi.specs.{Rules.UnitState, declared.command.Command.Command}
use Rattle.spec.specs.{Lagging.Lagging, Exchange.{Script, taking}}
use Rattle.scsi_unit.specs.{Pending.FitsPending, declared.progress.Want.Want}
use Rattle.bot_machine.specs.LaggingDisk.{StandsPending, StandsWith}
use Rattle.bot_machine.specs.declared.{exchange.Exchange.Exchange, pending.{Pending.Pending, Wanted.Wanted}}
use Rattle.window.specs.Window.{Window, state_of, AreOnDevice, IsShown}
use Rattle.disk_machine.specs.Seen.{Prompt}
use Rattle.disk_machine.proofs.play.show_sectors.Goals as goal
use Rattle.scsi_unit.specs.declared.progress.Want.TheVariants as want

same : (old new : Window) (first : ℕ) (bytes : List ℕ) (taken : Bool) → IsShown first bytes taken old new → AreOnDevice first bytes old
    → state_of new ≡ state_of old
same old new first bytes taken shown on = elim (cases_Bool taken) [
  | inl took ↦ ap (λ (w : Window). state_of w) (shown.honest took on)
  | inr not ↦ ap (λ (w : Window). state_of w) (shown.refused not)
]

-- the disk over another medium that is in the same state
module _ (m : State) (disk : Prompt) (medium : Window) (book : Book) (c : Lagging UnitState) where
  abbrev armed : Prompt
  armed = record disk { unit = record disk.unit { store = record disk.unit.store { medium = medium } } }

  fits : (command : Command) (taken : List ℕ) (wanted : Want) → FitsPending m disk.unit command taken wanted book
      → FitsPending m armed.unit command taken wanted book
  fits command taken want.Room was = was
  fits command taken want.Commit was = record { fits = was.fits; live = was.live }
  fits command taken want.Read was = record { fits = was.fits; written = was.written }

  pends : (wrapper : Option Exchange) (left : Script) (wanted : Wanted) → StandsPending wrapper left m disk wanted book c
      → StandsPending wrapper left m armed wanted book c
  pends (Some exchange) left wanted was = record {
    packet = was.packet;
    spelled = was.spelled;
    is = was.is;
    fits = fits wanted.command [] wanted.want was.fits;
  }
  pends None (taking case command intended taken due) wanted was = record {
    packet = was.packet;
    bytes = was.bytes;
    few = was.few;
    taken_is = was.taken_is;
    is = was.is;
    fits = fits wanted.command taken wanted.want was.fits;
  }
  pends None left wanted was = absurd was

  stands : (pending : Option Pending) → StandsWith pending m disk book c → StandsWith pending m armed book c
  stands None was = record { is = was.is; fits = was.fits }
  stands (Some pending) was = pends pending.wrapper disk.line.left pending.wanted was

pub returns : goal.returns
returns c = record {
  shown = c.show.ensures.shown;
  others = c.show.ensures.others;
  pending = c.show.ensures.pending;
  unchanged = λ on. rw (same _ _ _ _ _ c.show.ensures.shown on) (unchanged _);
  stands = λ on book life was.
      let still = stands _ c.args.disk.now.disk c.show.new.self.disk.unit.store.medium book life c.args.disk.now.pending was in
      rw (same _ _ _ _ _ c.show.ensures.shown on, c.show.ensures.pending, c.show.ensures.others) still;
}
