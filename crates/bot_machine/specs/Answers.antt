-- What each call answers, as the answer to an event.
use Rattle.std.specs.Prelude.{ℕ, ◌≤◌, List, length}
use Rattle.spec.specs.declared.event.Answer.{Answer}
use Rattle.spec.specs.declared.event.Answer.TheVariants as answer
use Rattle.bot_machine.specs.{declared.event.OutAnswer.OutAnswer, declared.event.InAnswer.InAnswer}
use Rattle.bot_machine.specs.declared.event.SetupAnswer.{SetupAnswer}
use Rattle.bot_machine.specs.declared.event.OutAnswer.TheVariants as out
use Rattle.bot_machine.specs.declared.event.InAnswer.TheVariants as in_token
use Rattle.bot_machine.specs.declared.event.SetupAnswer.TheVariants as setup

abbrev pub answer_to_out : OutAnswer → Answer
answer_to_out out.Ack = answer.Ack
answer_to_out out.Nak = answer.Nak
answer_to_out out.Stall = answer.Stall

abbrev pub answer_to_in : InAnswer → Answer
answer_to_in (in_token.Data bytes) = answer.Data (record { items = bytes.now })
answer_to_in in_token.Nak = answer.Nak
answer_to_in in_token.Stall = answer.Stall

abbrev pub answer_to_setup : SetupAnswer → Answer
answer_to_setup setup.Ack = answer.Ack
answer_to_setup (setup.Byte byte) = answer.Byte byte
answer_to_setup (setup.Two bytes) = answer.Two bytes
answer_to_setup setup.Stall = answer.Stall

-- data comes in packets of at most `most` bytes
abbrev pub IsPacket : ℕ → InAnswer → Type 0
IsPacket most (in_token.Data bytes) = length bytes.now ≤ most
IsPacket most in_token.Nak = Unit {0}
IsPacket most in_token.Stall = Unit {0}

-- a list of answers, and how many it has room for
pub record Room : Type 0 where
  pub list : List Answer
  pub room : ℕ
