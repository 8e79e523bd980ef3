-- Which refusals a command may have.
use Rattle.std.proofs.{Common.{◌≡◌, ◌⊎◌, ℕ, List, Option, None, refl, sym, ◌∙◌, ap, inl, inr, arith}, KnownBytes.Keeps-refl}
use Rattle.medium.specs.ImageFile.{Copied, ComesAfter}
use Rattle.usbdisk.specs.{declared.runner.fault.ScriptFault.ScriptFault, declared.runner.task.Task.Task}
use Rattle.usbdisk.specs.declared.runner.task.Task.TheVariants.{Format, Migrate, Run, Sim}
use Rattle.usbdisk.specs.runner.Program.{ComesBack, IsBack, IsJustOpened, IsUnread, IsUntouched, IsNotDone, IsRefusedFor}
use Rattle.usbdisk.specs.{runner.Refused.refusal_of_fault, runner.Task.IsCommandLine}
use Rattle.usbdisk.{specs.{declared.console.refusal.Refusal.Refusal, console.Status.status_of}, proofs.Statuses.refused_status}
use Rattle.usbdisk.specs.declared.runner.fault.ScriptFault.TheVariants as script
use Rattle.usbdisk.specs.declared.console.refusal.Refusal.TheVariants as refused

script_not_words : (fault : ScriptFault) → refusal_of_fault fault ≡ refused.Words → ⊥
script_not_words script.TooLong is = cc
script_not_words _ is = cc

unread_not_words : (refusal : Refusal) → IsUnread refusal → refusal ≡ refused.Words → ⊥
unread_not_words refusal (inl is) words = cc
unread_not_words refusal (inr (inl is)) words = cc
unread_not_words refusal (inr (inr is)) words = cc

module _ (was now : Option (List ℕ)) (back : Option Copied) (refusal : Refusal) where
  -- what is not done for other causes is no refusal of words
  not_words : (task : Task) → IsNotDone was now back task refusal → refusal ≡ refused.Words → ⊥
  not_words (Format image sizes) (inl (is, wrong, left)) same = cc
  not_words (Format image sizes) (inr (right, inl (is, why))) same = cc
  not_words (Format image sizes) (inr (right, inr (is, why))) same = cc
  not_words (Migrate image) (inl without) same = unread_not_words refusal without.0 same
  not_words (Migrate image) (inr stopped) same = elim stopped.work [
    | inl why ↦ cc
    | inr (is, untold) ↦ cc
  ]
  not_words (Run image script size) (inl without) same = unread_not_words refusal without.0 same
  not_words (Run image script size) (inr stopped) same = elim stopped.work [
    | inl (is, stays, kept) ↦ cc
    | inr (left, (fault, why, told)) ↦ script_not_words fault (sym told ∙ same)
  ]
  not_words (Sim image script size) (inl without) same = unread_not_words refusal without.0 same
  not_words (Sim image script size) (inr play) same = script_not_words play.fault (sym play.told ∙ same)

  -- at status 2 the words are no command line, and where they are none the status is 2 or 5
  pub no_line_at_two : (words : List (List ℕ)) → IsRefusedFor was now back words refusal → status_of refusal ≡ 2 → IsCommandLine words → ⊥
  no_line_at_two words (inl (is, left)) two = absurd (omega (arith, ap status_of is, two))
  no_line_at_two words (inr (inl (is, none, left))) two = none
  no_line_at_two words (inr (inr (task, spelled, why))) two = absurd (not_words task why ((refused_status refusal).words two))

  pub two_or_five : (words : List (List ℕ)) → IsRefusedFor was now back words refusal → (IsCommandLine words → ⊥)
      → (status_of refusal ≡ 2) ⊎ (status_of refusal ≡ 5)
  two_or_five words (inl (is, left)) never = inr (ap status_of is)
  two_or_five words (inr (inl (is, none, left))) never = inl (ap status_of is)
  two_or_five words (inr (inr (task, spelled, why))) never = absurd (never (task, spelled))

-- an image file that was opened comes back as work on it has left it, which follows it
pub comes_back : {back : Option Copied} {path : List ℕ} {Work : Copied → Copied → Type 0} (opened : Copied) → IsJustOpened path opened
    → IsBack (λ after. Work opened after × ComesAfter opened after) back → ComesBack back path Work
comes_back opened is_opened (after, given, (work, follows)) = record {
  opened = opened;
  is_opened = is_opened;
  after = after;
  given = given;
  path_is = follows.path_stays ∙ is_opened.is_read.path_is;
  work = work;
}

-- no image file was opened, and nothing was written
pub untouched : (was : Option (List ℕ)) → IsUntouched was was None
untouched was = (refl, Keeps-refl was)

-- nor where the words were not read
pub not_read : (was : Option (List ℕ)) (words : List (List ℕ)) (refusal : Refusal)
    → (refusal ≡ refused.NoMemory) ⊎ ((refusal ≡ refused.Words) × (IsCommandLine words → ⊥)) → IsRefusedFor was was None words refusal
not_read was words refusal (inl is) = inl (is, untouched was)
not_read was words refusal (inr is) = inr (inl (is.0, is.1, untouched was))
