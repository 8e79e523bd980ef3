use Rattle.std.proofs.Common.{◌≤◌, ◌-◌, ◌++◌, ℕ, List, Option, take, length}
use Rattle.usbdisk.specs.runner.Served.{HasServed}
use Rattle.usbdisk.proofs.runner.serve.serve_bytes.Given as goal

-- the bytes of the lines that ended were served, whatever was before
abbrev pub invariant-lines : goal.invariant-lines
invariant-lines g l =
    let goes = g.P.Player.goes in
    let stops = g.P.Player.stops in
    let contents = g.W.Write.contents in
    record {
      within : l.at ≤ length l.bytes;
      goes_on : (was : Option (List ℕ)) (first : g.row.P.Denot) (read : List ℕ)
          → HasServed goes stops (g.P.Player.most first) was (contents l.fn.out) first l.fn.player l.fn.line.bytes.items
          l.fn.line.number read
          → HasServed goes stops (g.P.Player.most first) was (contents l.out) first l.player l.line.bytes.items l.line.number
          (read ++ take l.at l.bytes);
    }

abbrev pub decreases-lines : goal.decreases-lines
decreases-lines g l = length l.bytes - l.at
