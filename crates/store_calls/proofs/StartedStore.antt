-- A start of a store that was refused: its own calls say why.
use Rattle.std.proofs.Common.{◌≡◌, ◌≢◌, ◌⊎◌, inl, inr, ◌<◌, ◌+◌, length, subst, arith}
use Rattle.medium.specs.{Sent.sent, declared.fault.MediumFault.MediumFault}
use Rattle.window.specs.{Window.{Window, state_of, kept_out, ComesAfter, IsServed}, WindowLaws.is_sound}
use Rattle.recovery.specs.{Causes.start_fault_of, declared.start_fault.StartFault.StartFault}
use Rattle.blocks.specs.Started.{IsStartCause, StartLeaves, LeavesMedium}
use Rattle.blocks.proofs.KnownImages.{each_ours, finds, is_cause_for}
use Rattle.store_calls.specs.{Rooms.SeesStart, Starts.EndsIn}
use Rattle.store_calls.proofs.Served.{start_refuses, start_sees}
use Rattle.medium.specs.declared.fault.MediumFault.TheVariants as kind
use Rattle.recovery.specs.declared.start_fault.StartFault.TheVariants as fault

-- in the words of books
start_leaves : (first after : Window) → LeavesMedium state_of ComesAfter first after → StartLeaves (state_of first) (state_of after)
start_leaves first after medium = record {
  cuts = medium.cuts;
  after_flush = medium.after_flush;
  finds = λ book on ours flushed. finds (state_of first) (state_of after) (is_sound after) medium.moments.moments.size_stays book on
      flushed (medium.cuts (each_ours (state_of first) book on ours));
  bounded = medium.moments;
}

module _ (first after : Window) (empty : length first.outbox ≡ 0) (medium : LeavesMedium state_of ComesAfter first after) where
  -- the call of this kind that the fault names was refused
  grew : (why : MediumFault) → IsStartCause (state_of first) (state_of after) (start_fault_of why)
      → (state_of first).refused why < (state_of after).refused why
  grew kind.Read cause = elim cause [ inl refused ↦ refused.kind_grew | inr none ↦ cc ]
  grew kind.Write cause = elim cause [ inl refused ↦ refused.kind_grew | inr none ↦ cc ]
  grew kind.Flush cause = elim cause [ inl refused ↦ refused.kind_grew | inr none ↦ cc ]

  no_room : kept_out first.seen.told.refused < kept_out after.seen.told.refused
      → sent (state_of first) + first.room < sent (state_of after)
  no_room more = omega (arith, empty, medium.follows.refuses more, medium.follows.room_stays)

  full : (why : StartFault) → IsStartCause (state_of first) (state_of after) why → (why ≡ fault.Write) ⊎ (why ≡ fault.Flush)
      → sent (state_of first) + first.room < sent (state_of after)
  full why cause (inl is) = no_room (omega (
    arith,
    grew kind.Write (subst (IsStartCause (state_of first) (state_of after)) is cause),
    medium.moments.moments.refused_stay kind.Flush,
  ))
  full why cause (inr is) = no_room (omega (
    arith,
    grew kind.Flush (subst (IsStartCause (state_of first) (state_of after)) is cause),
    medium.moments.moments.refused_stay kind.Write,
  ))

  -- each sector that was read is in sight
  sighted : (why : StartFault) → IsStartCause (state_of first) (state_of after) why → SeesStart first → why ≢ fault.Read
  sighted why cause sees is = absurd (omega (
    arith,
    grew kind.Read (subst (IsStartCause (state_of first) (state_of after)) is cause),
    start_sees first after medium sees,
  ))

  pub ends_in : (why : StartFault) → IsStartCause (state_of first) (state_of after) why → IsServed first after → EndsIn first after why
  ends_in why cause served = record {
    cause = cause;
    possible = λ book on. is_cause_for (state_of first) (state_of after) book on why cause;
    leaves = start_leaves first after medium;
    medium = medium;
    refuses = start_refuses first after empty medium served;
    full = full why cause;
    sighted = sighted why cause;
  }
