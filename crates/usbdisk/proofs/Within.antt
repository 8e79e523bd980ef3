-- The packets of lines are not too long.
use Rattle.std.proofs.Common.{◌≡◌, ◌≤◌, ℕ, suc, List, [], ◌∷◌, ◌++◌, length, map, ap, subst, inl, inr, ◌∙◌, arith}
use Rattle.std.proofs.{lemmas.List.length-take, lemmas.List.Elements.{All-cons, All-nil, All-replicate}}
use Rattle.std.specs.Prelude.{replicate, zero, take, drop}
use Rattle.spec.specs.{Packets.{bytes_of, packets_of, cut_into}, declared.event.Event.Event}
use Rattle.bot_machine.specs.Fitting.{IsWithin, AreWithin}
use Rattle.usbdisk.specs.declared.runner.line.ScriptLine.{ScriptLine}
use Rattle.usbdisk.specs.declared.runner.line.ScriptLine.TheVariants.{Out, Fill, In, Setup, Tick}
use Rattle.usbdisk.{specs.{runner.Events.{packet_out, events_of}, runner.Line.{Spells, SpellsOut}}, proofs.InTurn.of_all}
use Rattle.spec.specs.declared.event.Event.TheVariants as event

one_within : (most : ℕ) (happens : Event) → IsWithin most happens → AreWithin most (happens ∷ [])
one_within most happens is = All-cons (IsWithin most) happens [] is (All-nil (IsWithin most))

out_fits : (most : ℕ) (line packet : List ℕ) → SpellsOut most line packet → length packet ≤ most
out_fits most line packet (inl (alone, is)) = omega (arith, ap length is)
out_fits most line packet (inr (digits, parts, spelled)) = spelled.fits

-- the packets of data
cut_within : (most count : ℕ) (bytes : List ℕ) → AreWithin most (map packet_out (cut_into most count bytes))
cut_within most zero bytes = All-nil (IsWithin most)
cut_within most (suc count) bytes =
    All-cons (IsWithin most) (packet_out (take most bytes)) (map packet_out (cut_into most count (drop most bytes)))
    (λ less. omega (arith, length-take most bytes)) (cut_within most count (drop most bytes))

packets_within : (most : ℕ) (bytes : List ℕ) → AreWithin most (map packet_out (packets_of most bytes))
unfolding packets_of
packets_within most bytes = cut_within most _ bytes

-- the events of a line that spells what it asks for
pub events_within : (most : ℕ) (line : List ℕ) (asked : ScriptLine) → Spells most line asked → AreWithin most (events_of asked)
events_within most line (Out packet) spelled = one_within most (event.Out packet) (λ less. out_fits most line packet.items spelled)
events_within most line (Fill byte count size) spelled =
    subst (λ (n : ℕ). AreWithin n (map packet_out (packets_of (bytes_of size) (replicate count byte)))) spelled.1
    (packets_within (bytes_of size) (replicate count byte))
events_within most line In spelled = one_within most event.In tt
events_within most line (Setup packet) spelled = one_within most (event.Setup packet) tt
events_within most line (Tick count) spelled = All-replicate (IsWithin most) count event.Tick tt
events_within most line _ spelled = All-nil (IsWithin most)

-- one that comes behind others
pub next_within : (most : ℕ) (before events all left : List Event) (event : Event) → all ≡ before ++ events → events ≡ event ∷ left
    → AreWithin most all → IsWithin most event
next_within most before events all left event is next are =
    of_all (IsWithin most) before left event (rw (is ∙ ap (λ l. before ++ l) next) at are)
