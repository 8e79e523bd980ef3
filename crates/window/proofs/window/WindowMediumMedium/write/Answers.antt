use Rattle.std.proofs.Common.{◌/◌, refl, ap, arith, rules, append_assoc, length-append}
use Rattle.std.proofs.lemmas.Bool.Decides.{nat_tests}
use Rattle.window.specs.declared.call.DeviceCall.TheVariants.{Write}
use Rattle.window.specs.Queue.{Queue}
use Rattle.window.specs.Story.{given}
use Rattle.window.specs.OutboxMedium.{device_of}
use Rattle.window.specs.Seen.{refused}
use Rattle.window.proofs.OneCall.{seen_on, given_on, refused_leaves, given_leaves}
use Rattle.window.proofs.OutboxCalls.{given_none, given_some, whole_more, after-append}
use Rattle.window.proofs.window.WindowMediumMedium.write.Goals as goal

pub invariant_of-self : goal.invariant_of-self
invariant_of-self c = search (rules, given_none)

pub returns-then-len-room : goal.returns-then-len-room
returns-then-len-room c =
    let call = Write (record { sector = c.args.sector; block = c.args.from.now }) in
    let e = seen_on (λ t. refused t call) _ c.args.self.now _ c.of-self-inside.ensures c.self.view_is in
    let leaves = refused_leaves c.args.self.now _ call e (rw (← c.self.view_is) (omega arith)) in
    search (rules, leaves)

pub invariant_of-self-2 : goal.invariant_of-self-2
invariant_of-self-2 c =
    let call = Write (record { sector = c.args.sector; block = c.args.from.now }) in
    let more = whole_more (given c.self.inside.story.seen.told.asked) call c.self.invariant.well_formed.mirror.whole_writes
    (rw c.told-from refl) in
    search (
      rules,
      given_some,
      after-append,
      append_assoc,
      length-append,
      c.keep.ensures.near (device_of c.self.inside.story.seen.told).content,
      c.keep.ensures.pane,
      nat_tests,
    )

pub returns : goal.returns
returns c =
    let call = Write (record { sector = c.args.sector; block = c.args.from.now }) in
    let stays = c.keep.ensures.pane in
    let room = ap (λ (q : Queue). q.room) c.push.ensures in
    let e = given_on call _ c.args.self.now _ c.of-self-inside-2.ensures (ap (λ (q : Queue). q.items) c.push.ensures) room
    (ap (λ k. k / 512) c.keep.ensures.length) stays.from stays.held (ap (λ k. k / 512) stays.room) c.self.view_is in
    let leaves = given_leaves c.args.self.now _ call e (rw (← c.self.view_is) c.self.invariant.well_formed.mirror.whole_writes)
    (rw c.told-from refl) in
    search (rules, nat_tests, leaves)
