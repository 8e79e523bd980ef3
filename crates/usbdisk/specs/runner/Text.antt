-- The lines that tell answers.
use Rattle.std.specs.Prelude.{ℕ, List, [], ◌∷◌, ◌++◌, codes}
use Rattle.hex.specs.Hex.{encode_lower}
use Rattle.usbdisk.specs.console.Texts.{ended}
use Rattle.spec.specs.declared.event.Event.{Event}
use Rattle.spec.specs.declared.event.Event.TheVariants.{Tick}
use Rattle.spec.specs.declared.event.Answer.{Answer}
use Rattle.spec.specs.declared.event.Answer.TheVariants.{Ack, Nak, Stall, Data, Byte, Two, Ticked}
use Rattle.spec.specs.declared.event.Answer.TheVariants.{Off}

-- bytes, in hex digits of lower case
abbrev pub data_line : List ℕ → List ℕ
data_line bytes = ended (codes "data " ++ encode_lower bytes)

-- each answer has its line, but that to a step in the background
abbrev pub line_of : Answer → List ℕ
line_of Ack = ended (codes "ack")
line_of Nak = ended (codes "nak")
line_of Stall = ended (codes "stall")
line_of (Data packet) = data_line packet.items
line_of (Byte byte) = data_line (byte ∷ [])
line_of (Two bytes) = data_line bytes
line_of Ticked = []
line_of Off = ended (codes "off")

-- what is written for an event: nothing for a step in the background, also while the power is off
abbrev pub line_for : Event → Answer → List ℕ
line_for Tick answer = []
line_for event answer = line_of answer

-- the lines of events and their answers, one after another
abbrev pub text_of : List Event → List Answer → List ℕ
text_of (event ∷ events) (answer ∷ answers) = line_for event answer ++ text_of events answers
text_of _ _ = []
