use Rattle.std.proofs.Common.{◌≡◌, ◌⊎◌, inl, inr, refl, ℕ, List, codes}
use Rattle.usbdisk.specs.{declared.runner.line.ScriptKind.TheVariants.OneLife, declared.runner.line.ScriptLine.ScriptLine}
use Rattle.usbdisk.specs.declared.runner.line.ScriptLine.TheVariants.{Skipped, Out, Fill, In, Setup, Tick}
use Rattle.usbdisk.specs.runner.Line.{Spells, Allows, SpellsOut, SpellsFill, SpellsSetup, SpellsCount}
use Rattle.spec.specs.Packets.{bytes_of}
use Rattle.usbdisk.proofs.runner.line.read_sent.Goals as goal

-- what a line spells that none of the readers took
is_plain : (most : ℕ) (line : List ℕ) → ((packet : List ℕ) → SpellsOut most line packet → ⊥)
    → ((byte count : ℕ) → SpellsFill line byte count → ⊥) → ((packet : List ℕ) → SpellsSetup line packet → ⊥)
    → ((count : ℕ) → SpellsCount (codes "tick ") 1 1000000 line count → ⊥) → (asked : ScriptLine) → Spells most line asked
    → Allows OneLife asked → (asked ≡ Skipped) ⊎ (asked ≡ In)
is_plain most line no_out no_fill no_setup no_tick Skipped spelled allowed = inl refl
is_plain most line no_out no_fill no_setup no_tick (Out packet) spelled allowed = absurd (no_out packet.items spelled)
is_plain most line no_out no_fill no_setup no_tick (Fill byte count size) spelled allowed = absurd (no_fill byte count spelled.0)
is_plain most line no_out no_fill no_setup no_tick In spelled allowed = inr refl
is_plain most line no_out no_fill no_setup no_tick (Setup packet) spelled allowed = absurd (no_setup packet spelled)
is_plain most line no_out no_fill no_setup no_tick (Tick count) spelled allowed = absurd (no_tick count spelled)
is_plain most line no_out no_fill no_setup no_tick _ spelled allowed = absurd allowed

pub returns-in_err-count-clause-refused : goal.returns-in_err-count-clause-refused
returns-in_err-count-clause-refused c =
    rw c.from_residual.ensures
    (is_plain (bytes_of c.args.size) c.args.line.now c.in_default.ensures.refused c.in_default-read_fill.ensures.refused
    c.in_default-read_setup.ensures.refused c.in_err-count.ensures.refused)
