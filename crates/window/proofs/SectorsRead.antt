-- What one call more of a medium that reads on demand is counted as, and which sector it names.
use Rattle.std.proofs.Common.{◌≡◌, ◌≢◌, ◌+◌, ℕ, true, [], ◌∷◌, ◌++◌, Some, None, Ok, Err, refl, arith, rules, length-append}
use Rattle.std.proofs.lemmas.List.Elements.{All-nil, All-cons}
use Rattle.medium.specs.Medium.{Passes, LooksOnly}
use Rattle.medium.specs.Tally.{Tally, of_kind, of_all, one_more}
use Rattle.medium.specs.declared.fault.MediumFault.{MediumFault}
use Rattle.medium.specs.declared.fault.MediumFault.TheVariants as fault
use Rattle.window.specs.OutboxMedium.{size_of}
use Rattle.window.specs.Story.{Told, kind_of, given, are_whole, is_whole}
use Rattle.window.specs.declared.call.DeviceCall.{DeviceCall}
use Rattle.window.proofs.OutboxCalls.{one_moment_more, given_none, given_some, whole_more}
use Rattle.window.specs.Window.{Window, state_of, reads, misses, gives, refuses}

pub others : (k kind : MediumFault) (t : Tally) → kind ≢ k → of_kind (one_more t k) kind ≡ of_kind t kind
others k kind t other = grind arith

pub counted : (k : MediumFault) (t : Tally) → of_kind (one_more t k) k ≡ of_kind t k + 1
counted k t = grind arith

pub counted_all : (k : MediumFault) (t : Tally) → of_all (one_more t k) ≡ of_all t + 1
counted_all k t = grind arith

-- a call that gave nothing leaves as many sectors
pub same_size : (now new : Told) → new.opening ≡ now.opening → new.asked ≡ now.asked ++ None ∷ [] → size_of new ≡ size_of now
same_size now new opening asked = rw (opening, asked, given_none) refl

module _ (now new : Window) where
  pub passes_read : (s : ℕ) → new ≡ reads now s → Passes fault.Read (Ok tt) (state_of now) (state_of new)
  passes_read s e =
      let left = one_moment_more now.seen.told (reads now s).seen.told None refl refl in
      let same = same_size now.seen.told (reads now s).seen.told refl refl in
      rw e (search (rules, left, same, others, length-append))

  pub passes_refused : (call : DeviceCall) → new ≡ refuses now call
      → Passes (kind_of call) (Err (kind_of call)) (state_of now) (state_of new)
  passes_refused call e =
      let left = one_moment_more now.seen.told (refuses now call).seen.told None refl refl in
      let same = same_size now.seen.told (refuses now call).seen.told refl refl in
      rw e (search (rules, left, same, others, counted, counted_all, length-append))

  pub passes_given : (call : DeviceCall) → new ≡ gives now call → are_whole (given now.seen.told.asked) ≡ true → is_whole call ≡ true
      → Passes (kind_of call) (Ok tt) (state_of now) (state_of new)
  passes_given call e whole one =
      let left = one_moment_more now.seen.told (gives now call).seen.told (Some call) refl refl in
      let more = whole_more (given now.seen.told.asked) call whole one in
      let same : size_of (gives now call).seen.told ≡ size_of now.seen.told = rw (given_some, more, whole) refl in
      rw e (search (rules, left, same, others, counted, length-append))

  -- the sector alone is named
  names_it : (s : ℕ) → new.seen.looked ≡ now.seen.looked ++ s ∷ [] → LooksOnly (λ t. t ≡ s) (state_of now) (state_of new)
  names_it s more = record { looks = s ∷ []; looked = more; only = All-cons (λ t. t ≡ s) s [] refl (All-nil (λ t. t ≡ s)) }

  pub looks_read : (s : ℕ) → new ≡ reads now s → LooksOnly (λ t. t ≡ s) (state_of now) (state_of new)
  looks_read s e = names_it s (rw e refl)

  pub looks_missed : (s : ℕ) → new ≡ misses now s → LooksOnly (λ t. t ≡ s) (state_of now) (state_of new)
  looks_missed s e = names_it s (rw e refl)
