-- Neighbouring sectors that are read at once.
use Rattle.std.proofs.Common.{◌≡◌, ◌<◌, ◌≤◌, ◌+◌, ◌*◌, ◌∙◌, ℕ, zero, suc, List, take, drop, refl, arith, rules}
use Rattle.std.proofs.{lemmas.List.drop-drop, Math.Seq.take-add}
use Rattle.medium.specs.{Medium.{Image, State}, Writes.sector_of, Range.{held_from, IsAmong, PassesReads}}
use Rattle.medium.proofs.{Moments.{quiet_start, quiet_call, quiet_joined}, SectorsRead.{no_looks, one_look, looks_joined, looks_wider}}
use Rattle.window.specs.{Story.given, Seen.{Seen, read, read_from}}
use Rattle.window.specs.Window.{Window, state_of, reads, reads_from, ComesAfter}
use Rattle.window.specs.WindowLaws.{comes_after_itself, comes_after_through}
use Rattle.window.proofs.{OneCall.read_leaves, OutboxCalls.given_none, SectorsRead.looks_read}

-- what lies in a row of bytes is what an image holds
pub held_is : (image : Image) (bytes : List ℕ) (from held k first count : ℕ) → ((i : ℕ) → i < held → sector_of bytes i ≡ image (from + i))
    → k + count ≤ held → first ≡ from + k → take (512 * count) (drop (512 * k) bytes) ≡ held_from image first count
held_is image bytes from held k first zero each inside is = refl
held_is image bytes from held k first (suc count) each inside is =
    let size : 512 * suc count ≡ 512 + 512 * count = omega arith in
    let next : 512 * k + 512 ≡ 512 * (k + 1) = omega arith in
    let here : sector_of bytes k ≡ image first = rw is (each k (omega arith)) in
    let rest = held_is image bytes from held (k + 1) (first + 1) count each (omega arith) (omega arith) in
    rw (size, take-add, here, drop-drop, next, rest) refl

-- what a medium was asked stays, but for reads
pub record ReadsAlone (old new : Seen) : Type 0 where
  pub opening : new.told.opening ≡ old.told.opening
  pub taken : new.told.taken ≡ old.told.taken
  pub given_stays : given new.told.asked ≡ given old.told.asked

pub alone : (t : Seen) (first count : ℕ) → ReadsAlone t (read_from t first count)
alone t first zero = search rules
alone t first (suc count) = let rest = alone (read t first) (first + 1) count in search (rules, given_none)

-- one read, and then others
pub one_then : (old mid new : State) (first count : ℕ) → PassesReads first 1 old mid → PassesReads (first + 1) count mid new
    → PassesReads first (suc count) old new
one_then old mid new first count one rest = record {
  calls_are = omega (arith, one.calls_are, rest.calls_are);
  made_are = omega (arith, one.made_are, rest.made_are);
  others_made = λ kind other. rest.others_made kind other ∙ one.others_made kind other;
  failures_stay = rest.failures_stay ∙ one.failures_stay;
  refused_stay = λ kind. rest.refused_stay kind ∙ one.refused_stay kind;
  quiet = quiet_joined old mid new one.quiet rest.quiet;
  looks = looks_joined _ old mid new (looks_wider _ _ old mid (λ s among. grind (arith, among)) one.looks)
      (looks_wider _ _ mid new (λ s among. grind (arith, among)) rest.looks);
}

module _ (w : Window) where
  pub one_read : (first : ℕ) → PassesReads first 1 (state_of w) (state_of (reads w first))
  one_read first =
      let leaves = read_leaves w (reads w first) first refl in
      let quiet = quiet_call (state_of w) (state_of (reads w first)) leaves.passes leaves.content leaves.sets in
      let looks = one_look (IsAmong first 1) (state_of w) (state_of (reads w first)) first (omega arith, omega arith)
      (looks_read w (reads w first) first refl) in
      search (rules, arith, leaves, quiet, looks)

-- all of them are read
pub range_read : (w : Window) (first count : ℕ) → PassesReads first count (state_of w) (state_of (reads_from w first count))
range_read w first zero = record {
  calls_are = omega arith;
  made_are = omega arith;
  others_made = λ kind other. refl;
  failures_stay = refl;
  refused_stay = λ kind. refl;
  quiet = quiet_start (state_of w);
  looks = no_looks _ (state_of w) (state_of w) refl;
}
range_read w first (suc count) =
    one_then (state_of w) (state_of (reads w first)) (state_of (reads_from w first (suc count))) first count (one_read w first)
    (range_read (reads w first) (first + 1) count)

pub range_follows : (w : Window) (first count : ℕ) → ComesAfter w (reads_from w first count)
range_follows w first zero = comes_after_itself w
range_follows w first (suc count) =
    comes_after_through w (reads w first) (reads_from w first (suc count)) (read_leaves w (reads w first) first refl).follows
    (range_follows (reads w first) (first + 1) count)
