use Rattle.std.{proofs.Common.{◌≡◌, ◌++◌, ◌≤◌, length, map}, specs.Prelude.{All, decimal}}
use Rattle.usbdisk.specs.{runner.Left.parts_left, runner.Lines.words_of}
use Rattle.usbdisk.proofs.runner.kept.read_numbers.Given as goal

abbrev pub invariant-loop-word : goal.invariant-loop-word
invariant-loop-word l = record {
  words : words_of l.text ≡ map decimal l.numbers.items ++ parts_left l.word-iterator;
  few : length l.numbers.items ≤ 64;
  small : All (λ number. number ≤ 16383) l.numbers.items;
}
