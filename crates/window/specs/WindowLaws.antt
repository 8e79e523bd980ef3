-- What holds of a medium that reads on demand at each moment.
use Rattle.std.specs.Prelude.{◌≡◌, ℕ, List, [], ◌++◌, length}
use Rattle.std.specs.List.{list_all}
use Rattle.std.proofs.Common.{inl, inr, refl, sym, ◌∙◌, ap, arith, append_assoc, rules}
use Rattle.std.proofs.Common.{length-append}
use Rattle.std.proofs.lemmas.List.{append-nil}
use Rattle.std.proofs.lemmas.Bool.{and_parts, cases_lt}
use Rattle.std.proofs.lemmas.List.Folds.{list_all-append}
use Rattle.medium.specs.Medium.{IsSound}
use Rattle.window.specs.MirrorLaws as mirror
use Rattle.window.specs.MirrorLaws.{given-append}
use Rattle.window.specs.Story.{given}
use Rattle.window.specs.declared.call.DeviceCall.{DeviceCall}
use Rattle.window.specs.Window.{Window, mirror_of, state_of, is_in_sight, kept_out, ComesAfter}

pub is_sound : (w : Window) → IsSound (state_of w)
is_sound w = let sound = mirror.is_sound (mirror_of w) in search rules

pub comes_after_itself : (w : Window) → ComesAfter w w
comes_after_itself w = record {
  since = [];
  asked = sym (append-nil w.seen.told.asked);
  outbox = sym (append-nil w.outbox);
  opening_stays = refl;
  taken_stays = refl;
  room_stays = refl;
  near_stays = refl;
  from_stays = refl;
  held_stays = refl;
  span_stays = refl;
  looks = [];
  looked = sym (append-nil w.seen.looked);
  in_sight = λ all. refl;
  sent = omega arith;
  refuses = λ more. absurd (omega (arith, more));
  failures_stay = omega arith;
  misses_stay = omega arith;
}

-- the same sectors are in sight
same_sight : (a b : Window) → ComesAfter a b → (looks : List ℕ)
    → list_all (is_in_sight b) looks ≡ list_all (is_in_sight a) looks
same_sight a b f looks = rw (f.near_stays, f.from_stays, f.held_stays) refl

pub comes_after_through : (a b c : Window) → ComesAfter a b → ComesAfter b c → ComesAfter a c
comes_after_through a b c f g =
    let waits = ap (λ (l : List DeviceCall). length l) f.outbox in record {
      since = f.since ++ g.since;
      asked = rw (g.asked, f.asked) (append_assoc a.seen.told.asked f.since g.since);
      outbox = rw (g.outbox, f.outbox, given-append)
          (append_assoc a.outbox (given f.since) (given g.since));
      opening_stays = cc;
      taken_stays = cc;
      room_stays = cc;
      near_stays = cc;
      from_stays = cc;
      held_stays = cc;
      span_stays = cc;
      looks = f.looks ++ g.looks;
      looked = rw (g.looked, f.looked) (append_assoc a.seen.looked f.looks g.looks);
      in_sight = λ all.
          let parts = and_parts (list_all (is_in_sight a) f.looks)
          (list_all (is_in_sight a) g.looks) (rw list_all-append at all) in
          g.in_sight (same_sight a b f g.looks ∙ parts.1) ∙ f.in_sight parts.0;
      sent = rw given-append (simp length-append (omega (arith, f.sent, g.sent)));
      refuses = λ more. elim
          (cases_lt (kept_out a.seen.told.refused) (kept_out b.seen.told.refused)) [
            | inl before ↦ omega (arith, f.refuses before, g.sent, g.room_stays)
            | inr after ↦ omega (
              arith,
              g.refuses (omega (arith, more, after)),
              f.sent,
              simp length-append at waits,
            )
          ];
      failures_stay = omega (arith, f.failures_stay, g.failures_stay);
      misses_stay = omega (arith, f.misses_stay, g.misses_stay);
    }
