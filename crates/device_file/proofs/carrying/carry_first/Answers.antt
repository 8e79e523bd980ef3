use Rattle.std.proofs.Common.{◌<◌, ◌∙◌, List, [], ◌∷◌, Some, length, refl, ap, arith, is_ok, inl, inr}
use Rattle.window.specs.declared.call.DeviceCall.{DeviceCall}
use Rattle.window.specs.declared.call.DeviceCall.TheVariants.{Flush}
use Rattle.device_file.specs.Asked.{writes_of}
use Rattle.device_file.specs.declared.fault.FileCall.TheVariants as call
use Rattle.device_file.proofs.FirstParts.{begins, some_writes_end, lets_first, carried_at, named_at, on_ok}
use Rattle.device_file.proofs.InRuns.{run_of}
use Rattle.device_file.proofs.Puts.{first_is}
use Rattle.device_file.proofs.carrying.carry_first.Goals as goal

pub returns-in-Write-clause-some : goal.returns-in-Write-clause-some
returns-in-Write-clause-some g c =
    let part = writes_of c.gather.new.run.first c.gather.new.run.blocks.items in
    let fewer : length c.gather.new.window.outbox < length c.args.window.now.outbox = c.gather.ensures.some
    (begins c.args.window.now.outbox c.in-Write.field-0 (c.requires ∙ ap (λ (k : DeviceCall). Some k) c.in-Write.is)) in
    record {
      carried = carried_at (is_ok c.write.result) part (g.D.DeviceFile.told c.args.file.now) (g.D.DeviceFile.told c.write.new.self)
          c.args.window.now c.gather.new.window c.gather.ensures.taken c.write.ensures.asks.asked;
      fewer = on_ok c.write.result (length c.gather.new.window.outbox < length c.args.window.now.outbox) fewer;
      size = c.write.ensures.asks.size;
      named = named_at c.write.result part call.Write
          (some_writes_end c.gather.new.run.first c.gather.new.run.blocks.items c.args.window.now c.gather.new.window
          c.gather.ensures.taken fewer) c.write.ensures.asks.named;
    }

pub returns-in-Write-clause-run : goal.returns-in-Write-clause-run
returns-in-Write-clause-run g c =
    let fewer : length c.gather.new.window.outbox < length c.args.window.now.outbox = c.gather.ensures.some
    (begins c.args.window.now.outbox c.in-Write.field-0 (c.requires ∙ ap (λ (k : DeviceCall). Some k) c.in-Write.is)) in
    record {
      part = writes_of c.gather.new.run.first c.gather.new.run.blocks.items;
      parts = c.gather.ensures.taken.waited;
      run = inr (run_of c.gather.new.run.first c.gather.new.run.blocks.items c.args.window.now.outbox c.gather.new.window.outbox
          c.gather.ensures.taken.waited fewer c.gather.ensures.longest);
      once = c.write.ensures.once;
    }

pub returns-in-Flush-clause-run : goal.returns-in-Flush-clause-run
returns-in-Flush-clause-run g c =
    let (rest, is) = first_is c.args.window.now.outbox Flush (c.requires ∙ ap (λ (k : DeviceCall). Some k) c.in-Flush.is) in
    let lets = lets_first c.args.window.now c.carry_flush.new.window Flush rest is c.carry_flush.ensures.taken in
    record { part = Flush ∷ []; parts = lets.waited; run = inl refl; once = c.carry_flush.ensures.once }

pub returns-in-Flush-clause-some : goal.returns-in-Flush-clause-some
returns-in-Flush-clause-some g c =
    let (rest, is) = first_is c.args.window.now.outbox Flush (c.requires ∙ ap (λ (k : DeviceCall). Some k) c.in-Flush.is) in
    let lets = lets_first c.args.window.now c.carry_flush.new.window Flush rest is c.carry_flush.ensures.taken in
    let fewer : length c.carry_flush.new.window.outbox < length c.args.window.now.outbox =
    omega (arith, ap (λ (l : List DeviceCall). length l) lets.waited) in
    record {
      carried = carried_at (is_ok c.carry_flush.result) (Flush ∷ []) (g.D.DeviceFile.told c.args.file.now)
          (g.D.DeviceFile.told c.carry_flush.new.file) c.args.window.now c.carry_flush.new.window lets c.carry_flush.ensures.asks.asked;
      fewer = on_ok c.carry_flush.result (length c.carry_flush.new.window.outbox < length c.args.window.now.outbox) fewer;
      size = c.carry_flush.ensures.asks.size;
      named = named_at c.carry_flush.result (Flush ∷ []) call.Sync ([], Flush, refl, refl) c.carry_flush.ensures.asks.named;
    }
