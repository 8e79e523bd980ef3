-- How a command begins and goes on where the device may be behind, from what the unit does.
use Rattle.std.proofs.Common.{◌≡◌, ◌⊎◌, ◌≤◌, ◌*◌, ℕ, Bool, true, false, List, Ok, Err, Result, Some, None, Option, length, arith}
use Rattle.std.proofs.{Common.{refl, sym, ap, ◌∙◌, subst, length-take, inl, inr}, lemmas.Bool.cases_Bool}
use Rattle.std.specs.Prelude.{IfOk}
use Rattle.medium.specs.{Medium.State, Moments.IsUnchanged, Sent.SendsUpTo}
use Rattle.medium.specs.declared.fault.MediumFault.TheVariants as faults
use Rattle.logical_blocks.specs.{Blocks.Write, Book.{Book, with_progress}}
use Rattle.scsi.specs.{Sense.Sense, declared.command.Command.Command}
use Rattle.scsi.specs.Rules.{CarriesOut, IsOutcome, checked, checked_for_fault, command_by, intention_by, moves, moves_after}
use Rattle.scsi.specs.Rules.{write_after, write_of_command}
use Rattle.spec.specs.{Cases.IsCase, declared.way.Way.Way}
use Rattle.spec.specs.declared.way.Way.TheVariants as ways
use Rattle.scsi.specs.declared.intent.Intent.TheVariants as intent
use Rattle.scsi_unit.specs.{Background.is_dead, Serving.{command_for, has_refused}}
use Rattle.scsi_unit.specs.UnitValue.{UnitValue, unit_limit, intention_of, state_of, answer_of, FitsUnit, IsOfSize}
use Rattle.scsi_unit.specs.Pending.{HasEnded, HasProgressed, IsPending, SendsWhenDone, StaysWanting, StepKeeps, BeginPost, GoOnPost}
use Rattle.scsi_unit.specs.Pending.{FitsPending, MayPromise, TakesAll, IsServable, CanBegin, commits, write_held}
use Rattle.scsi_unit.specs.declared.progress.Want.TheVariants as want
use Rattle.scsi_unit.specs.declared.progress.{Progress.Progress, Want.Want}
use Rattle.scsi_unit.specs.declared.progress.Progress.TheVariants.{Done, Wants}
use Rattle.scsi_unit.proofs.{PendingLaws.{dropped, parsed_once, parsed_now}, UnitTurns.limit_stays, UnitLaws.fits_size}
use Rattle.bot_machine.specs.declared.exchange.Exchange.{Exchange}
use Rattle.bot_machine.specs.declared.bulk_state.BulkState.{BulkState}
use Rattle.bot_machine.specs.declared.pending.Wanted.{Wanted}
use Rattle.bot_machine.specs.{Refinement.{LaysOutAnswer}, Serving.CanCarryOut}
use Rattle.bot_machine.specs.LaggingParts.{PendsFor, CommandCarriedOut, AnswerLaidOut, want_in, CommandBegun, CommandAdvanced}
use Rattle.bot_machine.proofs.{BooksGoOn.{few_promised, goes_on, held_parsed, more_held, still_more}, Packets.sent_fits}

-- a command that is over, or wants something
pub over_by : (progress : Progress) → None ≡ want_in progress → (answer : Result ℕ Sense) × (progress ≡ Done answer)
over_by (Done answer) is = (answer, refl)
over_by (Wants want) is = absurd (let e = is in cc)

pub wants_by : (progress : Progress) (want : Want) → Some want ≡ want_in progress → progress ≡ Wants want
wants_by (Done answer) want is = absurd (let e = is in cc)
wants_by (Wants other) want is = (let e = is in cc)

-- what the unit intends for a block is what the command of it moves
pub intends_parsed : {M : Type 0} (unit : UnitValue M) (block : List ℕ) → intention_of unit block ≡ moves_after (command_for unit block)
unfolding intention_by
intends_parsed unit block = refl

-- there is room for what is sent
room_for : (parsed : Result Command Sense) (room limit : ℕ) (answer : Result ℕ Sense)
    → ((n : ℕ) → moves_after parsed ≡ intent.In n → n ≤ room) → SendsWhenDone parsed limit (Done answer) → IfOk answer (λ size. size ≤ room)
room_for (Ok command) room limit (Ok size) fits sends = sent_fits (moves command) limit size room sends fits
room_for (Ok command) room limit (Err sense) fits sends = tt
room_for (Err sense) room limit (Ok size) fits sends = omega (arith, sends)
room_for (Err sense) room limit (Err other) fits sends = tt

-- a good command sends what it moves
all_sent : (parsed : Result Command Sense) (room limit : ℕ) (answer : Result ℕ Sense) (out : List ℕ) → length out ≡ room
    → ((n : ℕ) → moves_after parsed ≡ intent.In n → n ≤ room) → SendsWhenDone parsed limit (Done answer)
    → (n : ℕ) → moves_after parsed ≡ intent.In n → IfOk (answer_of answer out) (λ sent. length sent ≡ n)
all_sent (Ok command) room limit (Ok size) out long fits sends n means =
    omega (arith, sends.sent n means, fits n means, long, length-take size out)
all_sent (Ok command) room limit (Err sense) out long fits sends n means = tt
all_sent (Err sense) room limit (Ok size) out long fits sends n means = absurd (let e = means in cc)
all_sent (Err sense) room limit (Err other) out long fits sends n means = tt

module _ (parsed : Result Command Sense) (intended : Way) (room : ℕ)
    (meant : (n : ℕ) → intended ≡ ways.In n → moves_after parsed ≡ intent.In n)
    (fits : (n : ℕ) → moves_after parsed ≡ intent.In n → n ≤ room) where
  -- there is room for what is sent
  pub fits_room : (limit : ℕ) (answer : Result ℕ Sense) → SendsWhenDone parsed limit (Done answer) → IfOk answer (λ size. size ≤ room)
  fits_room limit answer sends = room_for parsed room limit answer fits sends

  -- a good command sends what it intended to
  pub moved : (limit : ℕ) (answer : Result ℕ Sense) (out : List ℕ) → length out ≡ room → SendsWhenDone parsed limit (Done answer)
      → (n : ℕ) → intended ≡ ways.In n → IfOk (answer_of answer out) (λ sent. length sent ≡ n)
  moved limit answer out long sends n is = all_sent parsed room limit answer out long fits sends n (meant n is)

-- no more than a transfer has
pub few_sent : (parsed : Result Command Sense) (limit : ℕ) (answer : Result ℕ Sense) → SendsWhenDone parsed limit (Done answer)
    → IfOk answer (λ size. size ≤ 512 * limit)
few_sent (Ok command) limit (Ok size) sends = sends.most
few_sent (Ok command) limit (Err sense) sends = tt
few_sent (Err sense) limit (Ok size) sends = omega (arith, sends)
few_sent (Err sense) limit (Err other) sends = tt

-- ---- a command that is over is carried out

-- what a good answer sends was told
was_good : (answer : Result ℕ Sense) (out sent : List ℕ) → answer_of answer out ≡ Ok sent → (n : ℕ) × (answer ≡ Ok n)
was_good (Ok n) out sent is = (n, refl)
was_good (Err sense) out sent is = absurd (let e = is in cc)

-- a command that passes the check for a fault is the one that was parsed
passed_is : (dead : Bool) (told : Result Command Sense) (command : Command) → checked_for_fault dead told ≡ Ok command → told ≡ Ok command
passed_is dead told command is = grind (arith, is)

module _ {M : Type 0} (Promises : Type 0) (held : Option Write) (before after : State) (old new : UnitValue M) (exchange : Exchange)
    (taken out : List ℕ) (from to : BulkState) (parsed : Result Command Sense) (answer : Result ℕ Sense)
    (may : (command : Command) (sent : ℕ) → parsed ≡ Ok command → answer ≡ Ok sent → commits command taken old.write_cache ≡ true
    → Promises)
    (either : (held ≡ None) ⊎ (held ≡ write_after (checked_for_fault (is_dead old.store.cached) parsed) taken))
    (meant : (n : ℕ) → exchange.intended ≡ ways.In n → moves_after parsed ≡ intent.In n)
    (fits : (n : ℕ) → moves_after parsed ≡ intent.In n → n ≤ length out)
    (sends : SendsWhenDone parsed (unit_limit old) (Done answer)) (laid : LaysOutAnswer from exchange answer to) where
  pub over : (book : Book) → FitsUnit before old (with_progress book held)
      → checked (state_of old book) exchange.command.block.items ≡ checked_for_fault (is_dead old.store.cached) parsed
      → HasEnded before after parsed taken old (answer_of answer out) new book
      → CommandCarriedOut Promises held (has_refused before after) after exchange taken old new from to out book
  over book fits_held is ended =
      let effect : CarriesOut (has_refused before after) exchange.command.block.items taken (state_of old book) (answer_of answer out)
      (state_of new ended.0) = subst (λ (told : Result Command Sense). IsOutcome (has_refused before after) told taken (state_of old book)
      (answer_of answer out) (state_of new ended.0)) (sym is) ended.1 in
      record {
        next = ended.0;
        carried_out = λ buffer left lies. record {
          answer = answer_of answer out;
          effect = effect;
          moved = moved parsed exchange.intended (length out) meant fits (unit_limit old) answer out refl sends;
          after = laid.line buffer out left lies (fits_room parsed exchange.intended (length out) meant fits (unit_limit old) answer sends);
        };
        fits = ended.2;
        on = goes_on Promises (has_refused before after) exchange.command.block.items taken (state_of old book) (state_of new ended.0)
            (answer_of answer out) effect
            (λ command sent passed commits good. may command _ (passed_is (is_dead old.store.cached) parsed command (sym is ∙ passed))
            (was_good answer out sent good).1 commits)
            held (rw is either) (few_promised before old book held fits_held);
      }

-- one that is over has ended, whether it was refused or not
ended_by : {M : Type 0} (parsed : Result Command Sense) (before after : State) (taken : List ℕ) (old new : UnitValue M)
    (answer : Result ℕ Sense) (out : List ℕ) (book : Book) → HasProgressed before after parsed taken old (Done answer) out new book
    → HasEnded before after parsed taken old (answer_of answer out) new book
ended_by (Ok command) before after taken old new answer out book line = line
ended_by (Err sense) before after taken old new answer out book line = line

-- a write in progress leaves the size
with_size : {M : Type 0} (unit : UnitValue M) (book : Book) (write : Option Write) → IsOfSize unit (with_progress book write)
    → IsOfSize unit book
with_size unit book None size = size
with_size unit book (Some w) size = size

-- what the rules parse is what the unit does, with a book of its size
pub parsed_by_book : {M : Type 0} (unit : UnitValue M) (block : List ℕ) (book : Book) → IsOfSize unit book
    → checked (state_of unit book) block ≡ command_for unit block
parsed_by_book unit block book size =
    sym (ap (λ (n : ℕ). command_by n (unit_limit unit) unit.kept.attention (is_dead unit.store.cached) block) size)

-- a unit that waits for a command fits a book of its size
pub pending_size : {M : Type 0} (m : State) (unit : UnitValue M) (command : Command) (taken : List ℕ) (wanted : Want) (book : Book)
    → FitsPending m unit command taken wanted book → IsOfSize unit book
pending_size m unit command taken want.Room book f = fits_size m unit book f
pending_size m unit command taken want.Commit book f =
    with_size unit book (write_of_command command taken) (fits_size m unit (with_progress book (write_of_command command taken)) f.fits)
pending_size m unit command taken want.Read book f = fits_size m unit book f.fits

-- a command that passed the check for a fault passes it again
kept_parsed : {M : Type 0} (unit : UnitValue M) (block : List ℕ) (command : Command) → command_for unit block ≡ Ok command
    → checked_for_fault (is_dead unit.store.cached) (Ok command) ≡ command_for unit block
kept_parsed unit block command is =
    let dead = is_dead unit.store.cached in
    ap (checked_for_fault dead) (sym is) ∙ sym (parsed_once _ (unit_limit unit) unit.kept.attention dead dead block (λ was. was))

-- ---- one that is not over may go on

-- a command of a unit that lives is parsed as before
pub still_parsed : {M : Type 0} {state : M → State} {Follows : M → M → Type 0} (command : Command) (taken : List ℕ) (next : Want)
    (old new : UnitValue M) (block : List ℕ) → StaysWanting command taken next old new → StepKeeps state Follows old new
    → checked_for_fault (is_dead old.store.cached) (Ok command) ≡ command_for old block
    → checked_for_fault (is_dead new.store.cached) (Ok command) ≡ command_for new block
still_parsed command taken next old new block stays keeps is =
    let on = keeps.goes_on in
    let lived : is_dead old.store.cached ≡ false = elim (cases_Bool (is_dead old.store.cached)) [
      | inl dead ↦ absurd (let died = on.dead_stays dead in let live = stays.live in grind (arith, died, live))
      | inr live ↦ live
    ] in
    let limit = limit_stays old.store.cached new.store.cached on.layout_stays in
    let others = stays.others in
    let live = stays.live in
    grind (arith, lived, limit, others, live, is, on.blocks_stay)

module _ {M : Type 0} {state : M → State} {Follows : M → M → Type 0} (command : Command) (next : Want) (old new : UnitValue M)
    (exchange : Exchange) (taken : List ℕ) (most : ℕ) (is_case : IsCase exchange.case exchange.command.host exchange.intended)
    (sends : (n : ℕ) → exchange.intended ≡ ways.In n → moves command ≡ intent.In n)
    (takes : TakesAll command taken) (room : (n : ℕ) → moves command ≡ intent.In n → n ≤ most)
    (servable : IsServable old (let good : Result Command Sense = Ok command in good))
    (parsed : checked_for_fault (is_dead old.store.cached) (Ok command) ≡ command_for old exchange.command.block.items)
    (stays : StaysWanting command taken next old new) (keeps : StepKeeps state Follows old new) where
  pub pends : PendsFor new exchange taken (record { command = command; want = next }) most
  pends =
      let on = keeps.goes_on in
      let limit = limit_stays old.store.cached new.store.cached on.layout_stays in
      record {
        is_case = is_case;
        sends = sends;
        parsed = still_parsed command taken next old new exchange.command.block.items stays keeps parsed;
        can = record { supported = rw (on.blocks_stay, limit) servable; taken_all = takes; wanted = stays.wanted };
        room = room;
        live = λ other. stays.live;
      }

-- ---- a command begins

abbrev command_in : Option Wanted → Command → Result Command Sense
command_in None command = Ok command
command_in (Some wanted) command = Ok wanted.command

same_command : (command : Command) (next : Want) (wanted : Wanted)
    → Some (let w : Wanted = record { command = command; want = next } in w) ≡ Some wanted
    → (let good : Result Command Sense = Ok command in good) ≡ Ok wanted.command
same_command command next wanted same = ap (λ (it : Option Wanted). command_in it command) same

pub can_begin : {M : Type 0} (unit : UnitValue M) (exchange : Exchange) (taken out : List ℕ) → CanCarryOut unit exchange taken out
    → (parsed : Result Command Sense) → parsed ≡ command_for unit exchange.command.block.items → IsServable unit parsed
    → CanBegin unit parsed taken out
can_begin unit exchange taken out can (Ok command) is servable =
    let intends : intention_of unit exchange.command.block.items ≡ moves command =
    intends_parsed unit exchange.command.block.items ∙ ap moves_after (sym is) in
    record {
      supported = servable;
      taken_all = λ n out_n. can.takes n (intends ∙ out_n);
      room = λ n in_n. can.room n (intends ∙ in_n);
    }
can_begin unit exchange taken out can (Err sense) is servable = tt

module _ {M : Type 0} {state : M → State} {Follows : M → M → Type 0} (old new : UnitValue M) (exchange : Exchange)
    (taken before out : List ℕ) (from to : BulkState) (can : CanCarryOut old exchange taken before) (long : length out ≡ length before)
    (parsed : Result Command Sense) (is : parsed ≡ command_for old exchange.command.block.items) (servable : IsServable old parsed)
    (progress : Progress) (post : BeginPost state Follows parsed taken old progress out new)
    (settled : AnswerLaidOut from exchange progress to) where
  intends : intention_of old exchange.command.block.items ≡ moves_after parsed
  intends = intends_parsed old exchange.command.block.items ∙ ap moves_after (sym is)

  meant : (n : ℕ) → exchange.intended ≡ ways.In n → moves_after parsed ≡ intent.In n
  meant n in_n = sym intends ∙ can.sends n in_n

  fits : (n : ℕ) → moves_after parsed ≡ intent.In n → n ≤ length out
  fits n in_n = rw long (can.room n (intends ∙ in_n))

  same_limit : unit_limit new ≡ unit_limit old
  same_limit = limit_stays old.store.cached new.store.cached post.keeps.goes_on.layout_stays

  pub begins_over : (answer : Result ℕ Sense) → progress ≡ Done answer
      → CommandBegun state Follows old from exchange taken None new to out
  begins_over answer done =
      let laid = rw done at settled in
      let sends = rw done at post.sends in
      record {
        goes = λ book f.
            over ⊥ None (state old.store.medium) (state new.store.medium) old new exchange taken out from to parsed answer
            (λ command sent good told commits. post.promises command sent good commits (done ∙ ap Done told)) (inl refl) meant fits sends
            laid book f
            (parsed_now (state old.store.medium) old exchange.command.block.items book f
            ∙ ap (checked_for_fault (is_dead old.store.cached)) (sym is))
            (ended_by parsed (state old.store.medium) (state new.store.medium) taken old new answer out book (rw done at (post.line
            book f)));
        leaves = laid.phase _ _ (rw same_limit (few_sent parsed (unit_limit old) answer sends));
        medium = post.medium;
        passes = record { keeps = post.keeps; limit = same_limit; size = laid.size };
        parsed = λ wanted none. absurd (let e = none in cc);
      }

  pub begins_wants : (command : Command) (next : Want) → parsed ≡ Ok command → progress ≡ Wants next
      → CommandBegun state Follows old from exchange taken (Some (record { command = command; want = next })) new to out
  begins_wants command next good wants =
      let stays : StaysWanting command taken next old new = (let w = post.waits next wants in rw good at w) in
      let unmoved = rw wants at settled in
      record {
        goes = λ book f.
            let line = post.line book f in
            let pending : IsPending (state new.store.medium) command taken next old new book = rw (good, wants) at line in
            record { stays = pending.stays; fits = pending.fits; more = more_held book (write_held next command taken) };
        leaves = record {
          unmoved = unmoved;
          others = stays.others;
          live = stays.live;
          pends =
              pends command next old new exchange taken (length out) can.is_case (λ n in_n. rw good at (meant n in_n))
              (λ n out_n. can.takes n (intends ∙ rw good out_n)) (λ n in_n. fits n (rw good in_n)) (rw good at servable)
              (kept_parsed old exchange.command.block.items command (sym is ∙ good)) stays post.keeps;
        };
        medium = post.medium;
        passes = record { keeps = post.keeps; limit = same_limit; size = ap (λ (b : BulkState). b.size) unmoved };
        parsed = λ wanted some. sym is ∙ good ∙ same_command command next wanted some;
      }

  -- a command that was refused wants nothing
  pub refused_ends : (sense : Sense) (next : Want) → parsed ≡ Err sense → progress ≡ Wants next → ⊥
  refused_ends sense next bad wants = let w = post.waits next wants in rw bad at w

-- ---- a command goes on

module _ {M : Type 0} {state : M → State} {Follows : M → M → Type 0} (old new : UnitValue M) (exchange : Exchange)
    (taken before out : List ℕ) (from to : BulkState) (wanted : Wanted) (can : PendsFor old exchange taken wanted (length before))
    (long : length out ≡ length before) (progress : Progress)
    (post : GoOnPost state Follows wanted.command wanted.want taken old progress out new)
    (settled : AnswerLaidOut from exchange progress to) where
  abbrev good : Result Command Sense
  good = Ok wanted.command

  same_limit_on : unit_limit new ≡ unit_limit old
  same_limit_on = limit_stays old.store.cached new.store.cached post.keeps.goes_on.layout_stays

  room_on : (n : ℕ) → moves wanted.command ≡ intent.In n → n ≤ length out
  room_on n in_n = rw long (can.room n in_n)

  -- one that may promise has nothing to write
  none_made : IsUnchanged (state old.store.medium) (state new.store.medium) → SendsUpTo 0 (state old.store.medium) (state new.store.medium)
  none_made same = omega (arith, same.made_stays faults.Write, same.made_stays faults.Flush)

  none_sent : (want : Want) → want ≡ wanted.want → MayPromise old wanted.command want
      → SendsUpTo 0 (state old.store.medium) (state new.store.medium)
  none_sent want.Room is may = absurd may
  none_sent want.Commit is written = none_made (post.at_once (rw (← is) written))
  none_sent want.Read is may = rw (← is) at post.makes.sent

  advances_over : (answer : Result ℕ Sense) → progress ≡ Done answer
      → CommandAdvanced state Follows old from exchange taken wanted None new to out
  advances_over answer done =
      let laid = rw done at settled in
      let sends = rw done at post.sends in
      record {
        goes = λ book f.
            let m = state old.store.medium in
            let block = exchange.command.block.items in
            over (MayPromise old wanted.command wanted.want) (write_held wanted.want wanted.command taken) m (state new.store.medium) old
            new exchange taken out from to good answer
            (λ command sent same told commits. post.promises sent (done ∙ ap Done told)
            (let is : wanted.command ≡ command = (let e = same in cc) in rw is commits))
            (held_parsed wanted.want wanted.command taken (is_dead old.store.cached) can.live) can.sends room_on sends laid book
            (dropped m old wanted.command taken wanted.want book f)
            (parsed_by_book old block book (pending_size m old wanted.command taken wanted.want book f) ∙ sym can.parsed)
            (rw done at (post.line book f));
        cuts = post.cuts;
        unsent = none_sent wanted.want refl;
        dead = post.dead;
        onward = record { fewer = λ same. absurd (let e = same in cc); follows = tt };
        leaves = laid.phase _ _ (rw same_limit_on (few_sent good (unit_limit old) answer sends));
        calls = post.makes;
        passes = record { keeps = post.keeps; limit = same_limit_on; size = laid.size };
      }

  advances_wants : (next : Want) → progress ≡ Wants next
      → CommandAdvanced state Follows old from exchange taken wanted (Some next) new to out
  advances_wants next wants =
      let stays = post.waits next wants in
      let unmoved = rw wants at settled in
      record {
        goes = λ book f.
            let pending : IsPending (state new.store.medium) wanted.command taken next old new book = rw wants at (post.line book f) in
            record {
              stays = pending.stays;
              fits = pending.fits;
              more = still_more wanted.want next wanted.command taken new.write_cache (rw wants at post.onward) pending.wanted book;
            };
        unsent = none_sent wanted.want refl;
        dead = post.dead;
        onward = record {
          fewer = λ same. post.fewer (let e = same in let w = wants in cc);
          follows = rw wants at post.onward;
        };
        cuts = post.cuts;
        leaves = record {
          unmoved = unmoved;
          others = stays.others;
          live = stays.live;
          pends =
              pends wanted.command next old new exchange taken (length out) can.is_case can.sends can.can.taken_all room_on
              can.can.supported can.parsed stays post.keeps;
        };
        calls = post.makes;
        passes = record { keeps = post.keeps; limit = same_limit_on; size = ap (λ (b : BulkState). b.size) unmoved };
      }

  pub advances : (result : Option Want) → result ≡ want_in progress
      → CommandAdvanced state Follows old from exchange taken wanted result new to out
  advances None is = let o = over_by progress is in advances_over o.0 o.1
  advances (Some next) is = advances_wants next (wants_by progress next is)
