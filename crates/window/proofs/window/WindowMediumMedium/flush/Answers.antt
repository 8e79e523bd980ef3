use Rattle.std.proofs.Common.{◌<◌, length, refl, ap, arith, rules, append_assoc, length-append}
use Rattle.std.proofs.lemmas.Bool.Decides.{nat_tests}
use Rattle.window.specs.declared.call.DeviceCall.TheVariants.{Flush}
use Rattle.window.specs.Queue.{Queue}
use Rattle.window.specs.Story.{given}
use Rattle.window.specs.MirrorLaws.{is_sound}
use Rattle.window.specs.Seen.{refused}
use Rattle.window.specs.Window.{mirror_of}
use Rattle.window.proofs.OneCall.{seen_on, given_on, refused_leaves, given_leaves}
use Rattle.window.proofs.OutboxCalls.{given_none, given_some, whole_more, after-append}
use Rattle.window.proofs.window.WindowMediumMedium.flush.Goals as goal

pub invariant_of-self : goal.invariant_of-self
invariant_of-self c = search (rules, given_none)

pub returns-then-len-room : goal.returns-then-len-room
returns-then-len-room c =
    let e = seen_on (λ t. refused t Flush) _ c.args.self.now _ c.of-self-inside.ensures c.self.view_is in
    let leaves = refused_leaves c.args.self.now _ Flush e (rw (← c.self.view_is) (omega arith)) in
    search (rules, leaves)

pub invariant_of-self-2 : goal.invariant_of-self-2
invariant_of-self-2 c =
    let more = whole_more (given c.self.inside.story.seen.told.asked) Flush c.self.invariant.well_formed.mirror.whole_writes refl in
    search (rules, given_some, after-append, append_assoc, length-append)

pub returns : goal.returns
returns c =
    let waits = ap (λ (q : Queue). q.items) c.push.ensures in
    let e = given_on Flush _ c.args.self.now _ c.of-self-inside-2.ensures waits (ap (λ (q : Queue). q.room) c.push.ensures) refl
    refl refl refl c.self.view_is in
    let leaves = given_leaves c.args.self.now _ Flush e (rw (← c.self.view_is) c.self.invariant.well_formed.mirror.whole_writes) refl in
    let sound = is_sound (mirror_of c.args.self.now) in
    let room : length c.args.self.now.outbox < c.args.self.now.room = rw (← c.self.view_is) (omega arith) in
    search (rules, nat_tests, room, leaves, sound)
