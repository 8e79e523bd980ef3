-- The calls of a medium that change what it holds or what a cut may leave: a device behind it has
-- these to carry out.
use Rattle.std.specs.Prelude.{ℕ, ◌+◌, ◌≤◌}
use Rattle.medium.specs.Medium.{State}
use Rattle.medium.specs.declared.fault.MediumFault.TheVariants.{Write, Flush}

-- how many writes and flushes there were, refused ones too
abbrev pub sent : State → ℕ
sent m = m.made Write + m.made Flush

-- at most `most` of them were made
abbrev pub SendsUpTo : ℕ → State → State → Type 0
SendsUpTo most old new = sent new ≤ sent old + most
