use Rattle.std.proofs.Common.{take}
use Rattle.bot_machine.specs.{declared.lives.disk_state.DiskState.TheVariants.Stopped, Device.device_with}
use Rattle.bot_machine.specs.{LivesValue.{LivesValue, RestsAlone}, Lifetimes.{actions_of_all, events_in, AppendsFor}}
use Rattle.bot_machine.proofs.lives.lifetimes.run_lives_by.Given as goal

abbrev pub invariant-loop-life : goal.invariant-loop-life
invariant-loop-life l =
    let lived = take l.life-index l.lives in
    let first : LivesValue = record { device = device_with l.fn.setup; state = Stopped l.fn.medium } in
    record {
      run : AppendsFor first l.run l.fn.answers l.answers (actions_of_all lived) (events_in lived);
      ended : RestsAlone l.run;
    }
