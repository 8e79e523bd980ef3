-- What ships meets the premises of the laws.
use Rattle.std.proofs.Common.{◌≡◌, inl, inr, ⊎_elim, ℕ, ◌≤◌, List, [], refl, sym, ◌∙◌}
use Rattle.std.proofs.Common.{arith, rules, Ok, length, map, append-nil}
use Rattle.std.proofs.lemmas.List.{length-map, get_or_at}
use Rattle.std.specs.Prelude.{replicate}
use Rattle.medium.specs.{Medium.{State, IsSound}, Moments.EachCut}
use Rattle.logical_blocks.specs.Blocks.{Array}
use Rattle.journal.specs.{Places.{Shape, sectors_of}, Record.entries_of, Formats.layout_of, Layout.RestsIn}
use Rattle.redo_log.specs.{Value.{LogValue, HasRoom}, Held.bytes_of, Steps.BeginsRecord}
use Rattle.recovery.{specs.{Calls.IsFormatted, Recovered.IsFresh}, proofs.JoinedCalls.zeros_fresh}
use Rattle.theorems.specs.{Ordering.{Written, Opens}, Logging.{Logs, begun_of, waiting_of}}
use Rattle.theorems.specs.Witnesses.{opening_of, OpeningWitness, LogWitness}
use Rattle.theorems.proofs.{LoggedSteps.many, Making.{step_on, turned}}

-- ---- a log

opens : (shape : Shape) (array : Array) (first : ℕ) (m : State) → sectors_of shape ≤ m.size → EachCut (IsFresh shape array first) m
    → Opens (opening_of shape array first) m
opens shape array first m fits fresh =
    let rests : EachCut (λ image. RestsIn (layout_of shape.format) shape image first [] array) m =
    λ image cut. let f = fresh image cut in search (rules, arith, f.carries) in
    record { is = refl; fits = fits; rests = rests }

formatted_fresh : (shape : Shape) (m : State) → IsFormatted shape m → EachCut (IsFresh shape (λ b. replicate 512 0) 1) m
formatted_fresh shape m f image cut =
    let same : (x : ℕ) → image x ≡ m.content x = λ x. f.flushed x (image x) (cut x) in
    zeros_fresh shape (λ b. replicate 512 0) 1 image (rw (same 0) f.super) (rw (same 1) f.head)
    (λ x low high. same x ∙ f.zeros x low (omega (arith, high))) (λ b below. same _ ∙ f.zeros _ (omega arith) (omega (arith, below)))

begun_blocks : {log next : LogValue} {numbers bytes : List ℕ} → HasRoom log → BeginsRecord numbers bytes (Ok tt) log next
    → (w : Written) → Logs log w → begun_of next ≡ entries_of numbers bytes
begun_blocks {log} {bytes = bytes} room begins w logs =
    let none : w.under_way ≡ [] = grind (arith, logs.records.under_way, room.none_under_way) in
    let copies : log.copies ≡ map bytes_of (waiting_of log w) = logs.records.copies ∙ rw (none, append-nil) refl in
    let long : length log.copies ≡ length log.waiting = rw copies (length-map (waiting_of log w) bytes_of ∙ sym (many logs)) in
    rw (begins.ok.1, logs.records.keeps, get_or_at log.copies bytes [] [] (length log.waiting) long) refl

module _ {M : Type 0} (state : M → State) (Follows : M → M → Type 0) where
  pub opening_met : OpeningWitness state Follows
  opening_met = record {
    formatted = λ shape m f. opens shape (λ b. replicate 512 0) 1 (state m) f.ours.stands.fits (formatted_fresh shape (state m) f);
    recovered = λ shape array next old new ours moments fresh.
        opens shape array next (state new) (rw moments.moments.size_stays ours.stands.fits) fresh;
  }

  pub log_met : ((m : M) → IsSound (state m)) → LogWitness state Follows
  log_met sound = record {
    takes = λ room batch begins. (
      record {
        numbers = _;
        bytes = _;
        firsts = _;
        room = room;
        batch = batch;
        stamp = begins.ok.0;
        next_is = begins.ok.1;
      },
      begun_blocks room begins,
    );
    steps = λ numbers bytes result some same made. record { under_way = some; result = result; made = rw same made };
    turns = λ result made. inr (result, made);
    goes_on = λ keeps made live. ⊎_elim (λ s. inl (step_on state sound Follows s.result s.made live))
        (λ t. turned state sound Follows keeps t.0 t.1 live) made;
    writes = λ ahead room three. record { room = room; spares = λ _. inl three };
    performs = λ call may made. record { call = call; bytes = _; got = _; may = may; made = made };
  }
