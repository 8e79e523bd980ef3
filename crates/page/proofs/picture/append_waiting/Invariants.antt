use Rattle.std.proofs.Common.{◌≡◌, ◌++◌, take, flat_map}
use Rattle.page.specs.Pictures.{spelled}
use Rattle.page.proofs.picture.append_waiting.Given as goal

abbrev pub invariant-loop-write : goal.invariant-loop-write
invariant-loop-write l = l.to.items ≡ l.fn.to.items ++ flat_map spelled (take l.write-index l.waiting)
