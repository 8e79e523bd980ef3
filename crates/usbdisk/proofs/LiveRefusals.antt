-- Which refusals the serving of an image file may have.
use Rattle.std.{proofs.Common.{◌≡◌, ℕ, List, sym, ◌∙◌, ap, inl, inr, arith, subst}, specs.Prelude.{Option, Some, None, IfSome}}
use Rattle.medium.specs.declared.file_call.Access.TheVariants.{Change}
use Rattle.window.specs.declared.call.DeviceCall.{DeviceCall}
use Rattle.device_file.specs.{Outbox.EndIn, Asked.Told, FileValue.{FileValue, IsOpened}, declared.fault.FileFault.FileFault}
use Rattle.usbdisk.{proofs.Statuses.{open_not_words, refused_status, waiting_not_three}, specs.console.Status.status_of}
use Rattle.usbdisk.specs.declared.console.refusal.Refusal.{Refusal}
use Rattle.usbdisk.specs.{runner.Live.IsLiveLine, runner.Served.IsStoppedBy, declared.runner.player.ServeFault.ServeFault}
use Rattle.usbdisk.specs.{live.Missing.{DiskOn, medium_of}, live.Playing.{AnswersThrough, IsUnanswered}}
use Rattle.usbdisk.specs.live.Program.{IsLiveRefusedFor, IsUnasked}
use Rattle.usbdisk.specs.live.Serving.{refusal_of_serving}
use Rattle.usbdisk.specs.declared.console.refusal.Refusal.TheVariants as refused
use Rattle.usbdisk.specs.declared.runner.player.ServeFault.TheVariants as serve

serving_not_words : (fault : ServeFault) (why : Option FileFault) → refusal_of_serving fault why ≡ refused.Words → ⊥
serving_not_words serve.Player (Some why) is = cc
serving_not_words serve.Player None is = cc
serving_not_words _ why is = cc

-- a call that waited was refused
player_not_three : (calls : List DeviceCall) (why : Option FileFault) → IfSome why (λ fault. EndIn calls fault.call)
    → status_of (refusal_of_serving serve.Player why) ≡ 3 → ⊥
player_not_three calls None named is = omega (arith, is)
player_not_three calls (Some fault) named is = waiting_not_three calls fault named is

serving_not_three : {D : Type 0} (told : D → Told) (at_once : D → List DeviceCall → D → Type 0) (holds : D → ℕ → List ℕ → Type 0)
    (refuses : D → ℕ → ℕ → Type 0) (most : ℕ) (was now left after : Option (List ℕ)) (first last : DiskOn D) (fault : ServeFault)
    → IsStoppedBy (AnswersThrough told at_once holds refuses) (IsUnanswered told at_once holds refuses) most was now first last left
    after fault
    → status_of (refusal_of_serving fault (medium_of last).fault) ≡ 3 → ⊥
serving_not_three told at_once holds refuses most was now left after first last serve.Player (script, all, stops) is =
    let carried = stops.ends.stops.1.plays.carried in
    player_not_three carried.carried.part (medium_of last).fault carried.named is
serving_not_three told at_once holds refuses most was now left after first last _ stops is = omega (arith, is)

module _ (device : List ℕ) (was now left after : Option (List ℕ)) (back : Option FileValue) (words : List (List ℕ))
    (refusal : Refusal) where
  not_words : IsLiveRefusedFor device was now left after back words refusal → refusal ≡ refused.Words → IsLiveLine words → ⊥
  not_words (inl (is, none, untouched)) same = none
  not_words (inr (image, size, are, inl (inl is, untouched))) same = cc
  not_words (inr (image, size, are, inl (inr (fault, is), untouched))) same = cc
  not_words (inr (image, size, are, inr (opened, is_opened, stopped))) same = elim stopped.refused [
    | inl (inl (inl (why, unopened, is), given), unread, kept) ↦ absurd (open_not_words why (sym is ∙ same))
    | inl (inl (inr is, given), unread, kept) ↦ cc
    | inl (inr on, unread, kept) ↦ elim on.refused [ inl start ↦ cc | inr part ↦ cc ]
    | inr serving ↦ absurd (serving_not_words serving.fault _ (sym serving.refused_is ∙ same))
  ]

  -- at status 2 the words are no command line, and where they are none the status is 2
  pub no_line_at_two : IsLiveRefusedFor device was now left after back words refusal → status_of refusal ≡ 2 → IsLiveLine words → ⊥
  no_line_at_two why two = not_words why ((refused_status refusal).words two)

  pub two_without_line : IsLiveRefusedFor device was now left after back words refusal → (IsLiveLine words → ⊥) → status_of refusal ≡ 2
  two_without_line (inl (is, none, untouched)) never = ap status_of is
  two_without_line (inr (image, size, are, why)) never = absurd (never (image, size, are))

  -- at status 3 the file was asked for nothing, where one was opened
  pub three_unasked : IsLiveRefusedFor device was now left after back words refusal → status_of refusal ≡ 3 → IfSome back IsUnasked
  three_unasked (inl (is, none, untouched)) three = rw untouched.none tt
  three_unasked (inr (image, size, are, inl (unopened, untouched))) three = rw untouched.none tt
  three_unasked (inr (image, size, are, inr (opened, is, stopped))) three =
      let same : stopped.last ≡ opened → IfSome back IsUnasked = λ same. rw (stopped.given, same)
      (subst (λ (path : List ℕ). IsOpened path Change opened) (sym is.path_is) is) in
      elim stopped.refused [
        | inl (inl (none, given), unread, kept) ↦ same given
        | inl (inr on, unread, kept) ↦ elim on.refused [
          | inl start ↦ same (start.unasked ∙ on.on.over.file_is)
          | inr part ↦ absurd (player_not_three part.so.carried.carried.part (medium_of part.disk).fault part.so.carried.named
              (rw part.fault_is (sym (ap status_of part.refused_is) ∙ three)))
        ]
        | inr serving ↦ absurd (serving_not_three _ _ _ _ _ was now left after serving.first serving.last serving.fault serving.stopped
            (sym (ap status_of serving.refused_is) ∙ three))
      ]
