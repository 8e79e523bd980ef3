-- What holds of a window and its file at each moment.
use Rattle.std.proofs.Common.{refl, ◌∙◌}
use Rattle.medium.specs.Medium.{IsSound}
use Rattle.window.specs.WindowLaws as window
use Rattle.usbdisk.specs.declared.live.file.FileWindow.{FileWindow}
use Rattle.usbdisk.specs.live.FileWindows.{state_of, GoesOn}

module _ {D : Type 0} where
  pub is_sound : (m : FileWindow D) → IsSound (state_of m)
  is_sound m = window.is_sound m.window

  pub goes_on_itself : (m : FileWindow D) → GoesOn m m
  goes_on_itself m = record {
    follows = window.comes_after_itself m.window;
    file_stays = refl;
    fault_stays = refl;
  }

  pub goes_on_through : (a b c : FileWindow D) → GoesOn a b → GoesOn b c → GoesOn a c
  goes_on_through a b c f g = record {
    follows = window.comes_after_through a.window b.window c.window f.follows g.follows;
    file_stays = g.file_stays ∙ f.file_stays;
    fault_stays = g.fault_stays ∙ f.fault_stays;
  }
