-- What the device of a machine is handed, and which sectors stay held.
use Rattle.std.proofs.Common.{◌≡◌, ◌≢◌, ◌+◌, ◌*◌, ◌<◌, ℕ, suc, List, [], ◌∷◌, ◌++◌, length, inl, inr, refl, sym, ◌∙◌, ap, subst, arith}
use Rattle.std.proofs.{Common.{append_assoc, Option}, lemmas.List.append-nil}
use Rattle.medium.specs.{Medium.{Image, Stays, Holds}, Writes.sector_of, Inlet.AreHeld}
use Rattle.window.specs.{MirrorLaws.given-append, Story.given, declared.call.DeviceCall.DeviceCall}
use Rattle.window.specs.Window.{Window, state_of, mirror_of, reads, gives}
use Rattle.window.proofs.{OutboxCalls.{given_none, given_some}, Shown.front}
use Rattle.image_calls.specs.{Runs.{HoldsOf, HoldsRead, LetsGo}, Running.HandedOut, declared.run.Run.Run}
use Rattle.window.specs.{Runs.writes_of}
use Rattle.store_calls.proofs.{OutboxTaken.same_writes}
use Rattle.image_calls.proofs.Carrying.{none_came, asked_more, gave_more}
use Rattle.window.specs.declared.call.DeviceCall.TheVariants as device
use Rattle.window.proofs.OutboxCalls as asked

-- ---- what was handed out

pub handed_none : (n : Window) → HandedOut [] n n
handed_none n = record {
  follows = none_came (mirror_of n);
  gave = refl;
  opening_stays = refl;
}

pub handed_read : (calls : List DeviceCall) (n k : Window) (place : ℕ) → HandedOut calls n k → HandedOut calls n (reads k place)
handed_read calls n k place had = record {
  follows = asked_more (mirror_of n) (mirror_of k) (mirror_of (reads k place)) had.follows refl refl refl;
  gave = given_none had.follows.since ∙ had.gave;
  opening_stays = had.opening_stays;
}

pub handed_more : (calls : List DeviceCall) (n k : Window) (one : DeviceCall) → HandedOut calls n k
    → HandedOut (calls ++ one ∷ []) n (gives k one)
handed_more calls n k one had = record {
  follows = gave_more (mirror_of n) (mirror_of k) one had.follows;
  gave = given_some had.follows.since one ∙ ap (λ (l : List DeviceCall). l ++ one ∷ []) had.gave;
  opening_stays = had.opening_stays;
}

pub handed_through : (first more : List DeviceCall) (n k j : Window) → HandedOut first n k → HandedOut more k j
    → HandedOut (first ++ more) n j
handed_through first more n k j f g = record {
  follows = record {
    since = f.follows.since ++ g.follows.since;
    asked = g.follows.asked ∙ ap (λ (l : List (Option DeviceCall)). l ++ g.follows.since) f.follows.asked
        ∙ append_assoc n.seen.told.asked f.follows.since g.follows.since;
    outbox = g.follows.outbox ∙ ap (λ (l : List DeviceCall). l ++ given g.follows.since) f.follows.outbox
        ∙ append_assoc n.outbox (given f.follows.since) (given g.follows.since)
        ∙ ap (λ (l : List DeviceCall). n.outbox ++ l) (sym (given-append f.follows.since g.follows.since));
    taken_stays = g.follows.taken_stays ∙ f.follows.taken_stays;
  };
  gave = given-append f.follows.since g.follows.since ∙ (λ i. f.gave i ++ g.gave i);
  opening_stays = g.opening_stays ∙ f.opening_stays;
}

-- where nothing more was
pub handed_on : (calls : List DeviceCall) (n k j : Window) → HandedOut calls n k → HandedOut [] k j → HandedOut calls n j
handed_on calls n k j f g =
    subst (λ (l : List DeviceCall). HandedOut l n j) (append-nil calls) (handed_through calls [] n k j f g)

-- ---- runs of writes

-- one write more
pub writes_more : (count sector : ℕ) (was filled block : List ℕ) → Holds count block (sector_of was) (sector_of filled)
    → writes_of count sector was ++ device.Write (record { sector = sector + count; block = block }) ∷ []
    ≡ writes_of (suc count) sector filled
writes_more count sector was filled block stored =
    ap (λ (l : List DeviceCall). l ++ device.Write (record { sector = sector + count; block = block }) ∷ [])
    (same_writes count sector was filled (λ i lt. stored.elsewhere i (omega (arith, lt))))
    ∙ ap (λ (b : List ℕ). writes_of count sector filled ++ device.Write (record { sector = sector + count; block = b }) ∷ [])
    (sym stored.here)

-- ---- what is held

pub held_stays : (run : Run) (old new : Image) → HoldsOf run old → Stays old new → HoldsOf run new
held_stays run old new held stays i lt = held i lt ∙ sym (stays (run.first + i))

pub held_read : (run : Run) (n : Window) (place : ℕ) → HoldsOf run (state_of n).content → HoldsOf run (state_of (reads n place)).content
held_read run n place held = held_stays run (state_of n).content (state_of (reads n place)).content held (asked.quiet_content (mirror_of n))

pub held_flushed : (run : Run) (n : Window) → HoldsOf run (state_of n).content
    → HoldsOf run (state_of (gives n device.Flush)).content
held_flushed run n held = held_stays run (state_of n).content (state_of (gives n device.Flush)).content held
    (asked.given_content (mirror_of n) device.Flush)

not_here : (run kept : Run) (sector i : ℕ) → LetsGo sector run kept → i < kept.held → run.first + i ≢ sector
not_here run kept sector i go lt here = elim go.held_is [
  | inl before ↦ absurd (omega (arith, here, before.0))
  | inr behind ↦ absurd (omega (arith, here, behind.0, behind.1, lt))
]

was_held : (run kept : Run) (sector i : ℕ) → LetsGo sector run kept → i < kept.held → i < run.held
was_held run kept sector i go lt = elim go.held_is [
  | inl before ↦ omega (arith, before.1, lt)
  | inr behind ↦ omega (arith, behind.1, lt)
]

pub held_written : (run kept : Run) (sector : ℕ) (bytes : List ℕ) (old new : Image) → HoldsOf run old → Holds sector bytes old new
    → LetsGo sector run kept → HoldsOf kept new
held_written run kept sector bytes old new held written go i lt =
    ap (λ x. sector_of x.bytes.items i) go.bytes_stay ∙ held i (was_held run kept sector i go lt)
    ∙ sym (written.elsewhere (run.first + i) (not_here run kept sector i go lt))
    ∙ ap (λ (f : ℕ). new (f + i)) (sym go.first_stays)

-- what was read is held
pub held_anew : (old new : Run) (first count : ℕ) (bytes : List ℕ) (image : Image) → HoldsRead first bytes old new
    → length bytes ≡ 512 * count → AreHeld image first count bytes → HoldsOf new image
held_anew old new first count bytes image read long honest i lt =
    ap (λ (l : List ℕ). sector_of l i) read.bytes_are
    ∙ front bytes _ i (omega (arith, long, lt, read.held_is))
    ∙ honest i (omega (arith, long, lt, read.held_is))
    ∙ ap (λ (f : ℕ). image (f + i)) (sym read.first_is)
