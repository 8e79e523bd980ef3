-- Lines that are served one after another.
use Rattle.std.proofs.Common.{◌≡◌, ◌==◌, ◌<◌, ◌≤◌, ◌⊎◌, ℕ, ◌+◌, min, take, false, List, [], ◌∷◌, ◌++◌, length, Option, None, Some, codes}
use Rattle.std.proofs.Common.{inl, inr, refl, sym, ap, subst, ◌∙◌, arith, length-append, append_assoc, append-nil}
use Rattle.std.proofs.lemmas.List.Elements.{All-nil}
use Rattle.std.proofs.KnownBytes.{Consumes-trans, Appends-kept}
use Rattle.std.specs.Io.KnownBytes.{Consumes, IsAtEnd}
use Rattle.spec.specs.declared.event.Event.{Event}
use Rattle.spec.specs.declared.event.Answer.{Answer}
use Rattle.usbdisk.specs.declared.runner.player.ServeFault.{ServeFault}
use Rattle.usbdisk.specs.declared.runner.player.ServeFault.TheVariants.{Line, Reader}
use Rattle.usbdisk.specs.runner.Players.{IsPlayer}
use Rattle.usbdisk.specs.runner.Lines.{lines_of}
use Rattle.usbdisk.specs.runner.Script.{LinePlays}
use Rattle.usbdisk.specs.runner.Streams.{IsAll}
use Rattle.usbdisk.specs.runner.Text.{text_of}
use Rattle.usbdisk.specs.runner.Served.{line_number, AreAnswered, IsAnswered, IsLineStopped, StopsIn, StopsAtBadLine, StopsUnread}
use Rattle.usbdisk.specs.runner.Served.{IsServedBy}
use Rattle.usbdisk.specs.runner.Served.{IsStoppedBy, HasServed, IsTooLong, IsUnended, StandsFor}
use Rattle.usbdisk.proofs.InTurn.{InTurn-append}
use Rattle.usbdisk.proofs.LineEnds.{unended-through, ended_line, last_line, begins, plays_line, holds_line, stands-through, first_is}
use Rattle.usbdisk.proofs.LineEnds.{too_long}
use Rattle.usbdisk.proofs.ToldEvents.{tells-none, tells-more, ends-behind, most_stays}

-- the whole script, of which these bytes were taken
whole_of : (left after : Option (List ℕ)) (read : List ℕ) → Consumes left after read → (more : List ℕ) × IsAll left (read ++ more)
whole_of None after read taken = ([], tt)
whole_of (Some all) None read taken = absurd taken
whole_of (Some all) (Some rest) read taken = (rest, sym taken)

all_of : (left after : Option (List ℕ)) (read : List ℕ) → Consumes left after read → IsAtEnd after → IsAll left read
all_of None after read taken end = tt
all_of (Some all) None read taken end = absurd taken
all_of (Some all) (Some rest) read taken end = sym (taken ∙ ap (λ (l : List ℕ). read ++ l) end ∙ append-nil read)

-- nothing more was taken
pub taken-none : (left mid after : Option (List ℕ)) (read chunk : List ℕ) (count : ℕ) → Consumes left mid read
    → Consumes mid after (take count chunk) → count ≡ 0 → Consumes left after read
taken-none left mid after read chunk count first next none =
    subst (λ (l : List ℕ). Consumes left after l) (ap (λ n. read ++ take n chunk) none ∙ append-nil read)
    (Consumes-trans left mid after read (take count chunk) first next)

-- a read took no bytes
pub taken-nothing : (left mid after : Option (List ℕ)) (read : List ℕ) → Consumes left mid read → Consumes mid after []
    → Consumes left after read
taken-nothing left mid after read first next =
    subst (λ (l : List ℕ). Consumes left after l) (append-nil read) (Consumes-trans left mid after read [] first next)

next_number : (before : ℕ) → min (line_number before + 1) 18446744073709551615 ≡ line_number (before + 1)
next_number before = omega arith

module _ {D : Type 0} {Goes : D → List Event → List Answer → D → Type 0} {packet : D → ℕ} (laws : IsPlayer Goes packet) where
  pub served-none : (Stops : D → Event → D → Type 0) (was : Option (List ℕ)) (disk : D)
      → HasServed Goes Stops (packet disk) was was disk disk [] 1 []
  served-none Stops was disk = record {
    before = [];
    line = [];
    parts = λ more. refl;
    unended = All-nil (λ byte. (byte == 10) ≡ false);
    stands = inl refl;
    counted = refl;
    answered = record { events = []; plays = refl; tells = tells-none laws was disk };
  }

  module _ {Stops : D → Event → D → Type 0} {was mid : Option (List ℕ)} {old between : D} {held : List ℕ} {number : ℕ}
      {read : List ℕ} (so : HasServed Goes Stops (packet old) was mid old between held number read) where
    abbrev longest : ℕ
    longest = packet old

    -- the size of packets stays
    pub served-packets : packet between ≡ longest
    served-packets = most_stays laws so.answered.tells

    -- more bytes of the line
    pub served-part : (new part : List ℕ) {next : ℕ} {all : List ℕ} → IsUnended part → StandsFor new (held ++ part)
        → next ≡ number → all ≡ read ++ part → HasServed Goes Stops longest was mid old between new next all
    served-part new part {next} {all} unended holds same is = record {
      before = so.before;
      line = so.line ++ part;
      parts = λ more. ap (λ (l : List ℕ). lines_of (l ++ more)) is ∙ ap lines_of (append_assoc read part more) ∙ so.parts (part ++ more)
          ∙ ap (λ (l : List ℕ). so.before ++ lines_of l) (sym (append_assoc so.line part more));
      unended = unended-through so.line part so.unended unended;
      stands = stands-through held new so.line part so.stands holds;
      counted = same ∙ so.counted;
      answered = so.answered;
    }

    -- one line more
    answered-more : (now : Option (List ℕ)) (new : D) → IsAnswered Goes Stops (packet between) mid now between new held
        → AreAnswered Goes Stops longest was now old new (so.before ++ so.line ∷ [])
    answered-more now new (events, plays, tells) = record {
      events = so.answered.events ++ events;
      plays = InTurn-append (LinePlays longest) so.before (so.line ∷ []) so.answered.events events so.answered.plays
          (events, [], plays_line longest held so.line events so.stands (rw served-packets at plays), refl, sym (append-nil events));
      tells = tells-more laws so.answered.tells tells;
    }

    -- a line feed ends the line
    parts-ended : (more : List ℕ) → lines_of (read ++ 10 ∷ more) ≡ so.before ++ so.line ∷ lines_of more
    parts-ended more = so.parts (10 ∷ more) ∙ ap (λ (l : List (List ℕ)). so.before ++ l) (ended_line so.line more so.unended)

    -- at the end stands a last line
    parts-last : lines_of read ≡ so.before ++ so.line ∷ []
    parts-last = ap lines_of (sym (append-nil read)) ∙ so.parts [] ∙ ap (λ (l : List ℕ). so.before ++ lines_of l) (append-nil so.line)
        ∙ ap (λ (l : List (List ℕ)). so.before ++ l) (last_line so.line so.unended)

    pub served-line : {now : Option (List ℕ)} {new : D} → IsAnswered Goes Stops (packet between) mid now between new held
        → {none : List ℕ} {next : ℕ} {all : List ℕ} → none ≡ [] → next ≡ min (number + 1) 18446744073709551615 → all ≡ read ++ 10 ∷ []
        → HasServed Goes Stops longest was now old new none next all
    served-line {now} {new} answered empty counts is = record {
      before = so.before ++ so.line ∷ [];
      line = [];
      parts = λ more. ap (λ (l : List ℕ). lines_of (l ++ more)) is ∙ ap lines_of (append_assoc read (10 ∷ []) more) ∙ parts-ended more
          ∙ sym (append_assoc so.before (so.line ∷ []) (lines_of more));
      unended = All-nil (λ byte. (byte == 10) ≡ false);
      stands = inl empty;
      counted = counts ∙ ap (λ n. min (n + 1) 18446744073709551615) so.counted ∙ next_number (length so.before)
          ∙ ap line_number (sym (length-append so.before (so.line ∷ [])));
      answered = answered-more now new answered;
    }

    -- the line stops the serving
    module _ (now : Option (List ℕ)) (new : D) where
      stops-at : (script : List ℕ) (after : List (List ℕ)) → lines_of script ≡ so.before ++ so.line ∷ after → (fault : ServeFault)
          → IsLineStopped Goes Stops (packet between) mid now between new held number fault
          → StopsIn Goes Stops longest was now old new script fault
      stops-at script after parts (Line told) stopped = record {
        before = so.before;
        line = so.line;
        after = after;
        parts = parts;
        answered =
            let tells = so.answered.tells in record {
              events = so.answered.events;
              plays = so.answered.plays;
              tells = rw stopped.2 (record {
                answers = tells.answers;
                goes = tells.goes;
                written = Appends-kept was mid now (text_of so.answered.events tells.answers) tells.written stopped.3;
              });
            };
        bad = λ line. stopped.1 (rw served-packets (holds_line longest held so.line so.stands line));
        counted = stopped.0 ∙ so.counted;
      }
      stops-at script after parts fault (asked, plays, part) = record {
        first = so.answered.events;
        part = part.part;
        event = part.event;
        stops = record {
          before = so.before;
          line = so.line;
          after = after;
          parts = parts;
          whole = so.answered.plays;
          rest = part.rest;
          here = plays_line longest held so.line (part.part ++ part.event ∷ part.rest) so.stands (rw (served-packets, part.parts) at plays);
        };
        ends = ends-behind laws so.answered.tells part;
      }

      pub stops-ended : (more : List ℕ) (fault : ServeFault)
          → IsLineStopped Goes Stops (packet between) mid now between new held number fault
          → StopsIn Goes Stops longest was now old new (read ++ 10 ∷ more) fault
      stops-ended more fault stopped = stops-at (read ++ 10 ∷ more) (lines_of more) (parts-ended more) fault stopped

      -- behind the last of the bytes
      pub stops-last : (fault : ServeFault) → IsLineStopped Goes Stops (packet between) mid now between new held number fault
          → StopsIn Goes Stops longest was now old new read fault
      stops-last fault stopped = stops-at read [] parts-last fault stopped

      pub answered-last : IsAnswered Goes Stops (packet between) mid now between new held
          → AreAnswered Goes Stops longest was now old new (lines_of read)
      answered-last answered = rw parts-last (answered-more now new answered)

      -- at the end of the input
      pub stopped-last : (left after : Option (List ℕ)) → Consumes left after read → IsAtEnd after → (fault : ServeFault)
          → IsLineStopped Goes Stops (packet between) mid now between new held number fault
          → IsStoppedBy Goes Stops longest was now old new left after fault
      stopped-last left after taken end Reader stopped = absurd stopped.2.ends
      stopped-last left after taken end fault stopped = (read, all_of left after read taken end, stops-last fault stopped)

      -- the input was read to its end
      pub served-all : (left after : Option (List ℕ)) → Consumes left after read → IsAtEnd after
          → IsAnswered Goes Stops (packet between) mid now between new held → IsServedBy Goes Stops longest was now old new left after
      served-all left after taken end answered =
          record { script = read; all = all_of left after read taken end; at_end = end; answered = answered-last answered }

    -- a line is too long
    pub stops-long : (part more : List ℕ) → longest ≤ 512 → IsUnended part → IsTooLong (held ++ part)
        → StopsAtBadLine Goes Stops longest was mid old between (read ++ part ++ more) number
    stops-long part more small unended is_long =
        let is = ap (λ (l : List ℕ). l ++ part) (held_is so.stands) in
        let line = so.line ++ part in
        let next = begins line more (unended-through so.line part so.unended unended) in
        let whole : 1100 < length line = omega (arith, is_long.long, ap length is) in
        let long : 1100 < length (line ++ next.0) = omega (arith, whole, length-append line next.0) in
        record {
          before = so.before;
          line = line ++ next.0;
          after = next.1;
          parts = ap lines_of (append_assoc read part more) ∙ so.parts (part ++ more)
              ∙ ap (λ (l : List ℕ). so.before ++ lines_of l) (sym (append_assoc so.line part more))
              ∙ ap (λ (l : List (List ℕ)). so.before ++ l) next.2;
          answered = so.answered;
          bad = λ asked. too_long longest (line ++ next.0) small long
              (λ comment same. let tail = first_is line next.0 comment (omega (arith, whole)) same in
              is_long.no_comment tail.0 (is ∙ tail.1)) asked.0 asked.1 asked.2;
          counted = so.counted;
        }
      where
        held_is : (held ≡ so.line) ⊎ ((kept : List ℕ) × (comment : List ℕ) × (held ≡ codes "#" ++ kept) × (so.line ≡ codes "#" ++ comment))
            → held ≡ so.line
        held_is (inl same) = same
        held_is (inr (kept, comment, is_held, is_line)) =
            absurd (is_long.no_comment (kept ++ part) (ap (λ (l : List ℕ). l ++ part) is_held))

    -- more is read: all whole lines were answered
    pub served-unread : StopsUnread Goes Stops longest was mid old between read
    served-unread = record { before = so.before; line = so.line; parts = parts-last; answered = so.answered }

-- the serving stopped, whatever stands behind what was read
pub stopped-in : {D : Type 0} (Goes : D → List Event → List Answer → D → Type 0) (Stops : D → Event → D → Type 0) (most : ℕ)
    (was now : Option (List ℕ)) (old new : D) (left after : Option (List ℕ)) (read : List ℕ) → Consumes left after read
    → (fault : ServeFault) → ((more : List ℕ) → StopsIn Goes Stops most was now old new (read ++ more) fault)
    → IsStoppedBy Goes Stops most was now old new left after fault
stopped-in Goes Stops most was now old new left after read taken Reader stops = absurd (stops []).ends
stopped-in Goes Stops most was now old new left after read taken fault stops =
    let all = whole_of left after read taken in (read ++ all.0, all.1, stops all.0)
