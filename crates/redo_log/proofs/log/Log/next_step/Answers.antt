use Rattle.std.proofs.{Common.{◌≡◌, ◌+◌, length, arith}, lemmas.Bool.Decides.nat_tests}
use Rattle.journal.specs.{Formats.layout_of, Places.{first_home, sectors_of}, Record.entries_of}
use Rattle.redo_log.specs.{Told.IsNextCall, Held.made_of, Shown.{shown, lists_of}}
use Rattle.redo_log.proofs.{StoreFacts.step_called, RecordSteps.{within_more, log_is, many_lists}}
use Rattle.medium.specs.Performed.{IsWithin}
use Rattle.redo_log.proofs.log.Log.next_step.Goals as goal

pub returns : goal.returns
returns g c =
    let i = c.self.inside in
    let log = c.args.self.now in
    let is = log_is i c.self.view_is c.self.invariant in
    let ring = rw c.in-Some.is at c.self.invariant.record_under_way in
    let made_is : c.in-Some.made ≡ made_of (shown i) = rw c.in-Some.is (grind (arith, nat_tests, ring.1)) in
    let stamp : i.head + c.len.result ≡ i.head + length (lists_of i.waiting.items) =
    omega (arith, c.len.ensures, many_lists i.waiting.items) in
    let next : IsNextCall (layout_of log.shape.format) log.shape (log.head + length log.waiting)
    (entries_of c.args.numbers.now c.args.bytes.now) (made_of log) c.next_call.result c.next_call.new.sector =
    rw (← c.self.view_is, ← made_is, ← stamp) c.next_call.ensures.next in
    let inside : IsWithin (first_home log.shape) c.next_call.result = rw (← c.self.view_is) c.next_call.ensures.inside in
    record {
      inside = within_more (first_home log.shape) (sectors_of log.shape) (omega arith) c.next_call.result inside;
      call_is = next;
      law = λ m n after result on made.
          step_called is on.live c.requires.under_way c.args.bytes.now c.requires.numbers c.requires.bytes
          next inside after result (g.M.Medium.state m) (g.M.Medium.state n) (g.met.M.Medium.sound m) (g.met.M.Medium.sound n) made;
    }
