use Rattle.std.{proofs.Common.{◌≡◌, map, take}, specs.Prelude.string_bytes}
use Rattle.usbdisk.proofs.console.words.words_of.Given as goal

abbrev pub invariant-loop-arg : goal.invariant-loop-arg
invariant-loop-arg l = record { words : map (λ word. word.now) l.words.items ≡ map string_bytes (take l.arg-index l.behind) }
