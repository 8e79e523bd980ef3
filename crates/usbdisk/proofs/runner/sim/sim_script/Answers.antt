use Rattle.std.proofs.Common.{◌≡◌, ap, inl}
use Rattle.spec.specs.Packets.{bytes_of}
use Rattle.bot_machine.specs.LivesValue.{LivesValue}
use Rattle.usbdisk.specs.declared.runner.line.ScriptKind.TheVariants.{Lives}
use Rattle.usbdisk.proofs.{NoScript.unplayed, SeveralLives.{first_over, are_played, are_refused, taken_up_to}}
use Rattle.usbdisk.proofs.Options.{if_ok, if_err, match_result}
use Rattle.usbdisk.proofs.runner.sim.sim_script.Goals as goal

pub play_lives-requires : goal.play_lives-requires
play_lives-requires g c = record {
  good = rw (← c.as_slice.ensures.value) at c.in-Ok.ensures.good;
  packets = ap (λ (l : LivesValue). l.device.packet_size) c.new_with-lives.ensures.value;
}

pub returns : goal.returns
returns g c =
    let most = bytes_of c.args.size in
    let same : c.new_with-lives.result ≡ first_over most c.args.medium = rw c.disk_identity.ensures at c.new_with-lives.ensures.value in
    let read = rw (← c.as_slice.ensures.value) at c.in-Ok.ensures.read in
    let good = rw (← c.as_slice.ensures.value) at c.in-Ok.ensures.good in
    let played = c.play_lives.ensures in
    record {
      played = if_ok c.play_lives.result
          (λ after all. are_played most c.args.medium c.requires _ _ _ _ read good after (rw same at all)) played.played;
      refused = if_err c.play_lives.result
          (λ error up_to. are_refused most c.args.medium c.requires _ _ _ _ read good error.fault error.medium (rw same at up_to))
          played.broken;
      taken = match_result c.play_lives.result (λ medium. c.in-Ok.ensures.taken)
          (λ error broken. inl (taken_up_to most _ _ _ _ error _ _ broken c.in-Ok.ensures.taken)) played.broken;
    }

pub returns-in-Err : goal.returns-in-Err
returns-in-Err g c = record {
  played = tt;
  refused = unplayed Lives (bytes_of c.args.size) _ _ c.args.medium _ _ c.in-Err.fault c.in-Err.ensures.refused;
  taken = inl c.in-Err.ensures.taken;
}
