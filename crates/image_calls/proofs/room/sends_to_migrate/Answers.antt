use Rattle.std.proofs.Common.{◌≡◌, ◌+◌, ◌*◌, ◌∙◌, rules}
use Rattle.journal.specs.{declared.log_format.LogFormat.TheVariants.One}
use Rattle.image_calls.proofs.Migrations.{sends_one, sends_two}
use Rattle.image_calls.proofs.room.sends_to_migrate.Goals as goal

pub returns-then-migrates : goal.returns-then-migrates
returns-then-migrates c =
    let limit = c.from.ensures ∙ c.limit.ensures in
    let one : c.args.sizes.now.format ≡ One = search rules in
    (λ i. (limit i * c.args.sizes.now.slots + 4) + c.slot_sectors.ensures i * c.args.sizes.now.slots + 5)
    ∙ sends_one c.args.sizes.now.format c.args.sizes.now.slots one

pub returns-else-migrates : goal.returns-else-migrates
returns-else-migrates c =
    let limit = c.from.ensures ∙ c.limit.ensures in
    let two : ¬ (c.args.sizes.now.format ≡ One) = search rules in
    (λ i. limit i * c.args.sizes.now.slots + 4) ∙ sends_two c.args.sizes.now.format c.args.sizes.now.slots two
