-- Calls that leave what waits are no calls of the medium.
use Rattle.std.proofs.Common.{◌≡◌, ◌+◌, ◌++◌, ◌∷◌, [], ℕ, zero, suc, List, refl, sym, ◌∙◌, ap, arith, append_assoc}
use Rattle.medium.specs.{Moments.IsUnchanged}
use Rattle.medium.proofs.Moments.{unchanged, unchanged_through}
use Rattle.window.specs.{OutboxMedium.sent, declared.call.DeviceCall.DeviceCall, Window.{Window, state_of, mirror_of, take_first}}
use Rattle.store_calls.specs.{Outbox.without}

-- what was sent stays, however much of it has left
pub record IsSentStill (old new : Window) : Type 0 where
  pub opening : new.seen.told.opening ≡ old.seen.told.opening
  pub sent : sent (mirror_of new) ≡ sent (mirror_of old)
  pub same : IsUnchanged (state_of old) (state_of new)
  pub looked : (state_of new).looked ≡ (state_of old).looked
  pub room : new.room ≡ old.room

none_goes : (w : Window) → IsSentStill w w
none_goes w = record { opening = refl; sent = refl; same = unchanged (state_of w); looked = refl; room = refl }

one_goes : (calls : List DeviceCall) (w : Window) → w.outbox ≡ calls → IsSentStill w (take_first calls w)
one_goes [] w is = none_goes w
one_goes (call ∷ calls) w is = record {
  opening = refl;
  sent = append_assoc w.seen.told.taken (call ∷ []) calls ∙ ap (λ (l : List DeviceCall). w.seen.told.taken ++ l) (sym is);
  same = record {
    size_stays = refl;
    content_stays = λ s. refl;
    sets_shrink = λ s c left. left;
    sets_grow = λ s c left. left;
    left_shrinks = λ t image left. record { at = left.at; later = left.later; past = left.past; cut = left.cut };
    left_grows = λ t image left. record { at = left.at; later = left.later; past = left.past; cut = left.cut };
    calls_stay = refl;
    made_stays = λ kind. refl;
    failures_stay = refl;
    refused_stay = λ kind. refl;
  };
  looked = refl;
  room = refl;
}

pub some_go : (count : ℕ) (w : Window) → IsSentStill w (without count w)
some_go zero w = none_goes w
some_go (suc count) w =
    let before = some_go count w in
    let last = one_goes (without count w).outbox (without count w) refl in record {
      opening = last.opening ∙ before.opening;
      sent = last.sent ∙ before.sent;
      same = unchanged_through (state_of w) (state_of (without count w)) (state_of (without (suc count) w)) before.same last.same;
      looked = last.looked ∙ before.looked;
      room = last.room ∙ before.room;
    }

-- and then some more
pub without_more : (count before : ℕ) (w : Window) → without count (without before w) ≡ without (count + before) w
without_more zero before w = let same : before ≡ 0 + before = omega arith in ap (λ (n : ℕ). without n w) same
without_more (suc count) before w =
    let same : suc (count + before) ≡ suc count + before = omega arith in
    ap (λ (v : Window). take_first v.outbox v) (without_more count before w) ∙ ap (λ (n : ℕ). without n w) same
