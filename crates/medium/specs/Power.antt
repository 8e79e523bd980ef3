-- When a medium in memory refuses a call.
use Rattle.std.specs.Prelude.{ℕ, ◌+◌, ◌-◌, Bool, true, false, not, ◌&&◌, ◌||◌, Option, Some, None}
use Rattle.std.specs.Prelude.{if◌then◌else◌, ◌==◌, nat_lt}
use Rattle.medium.specs.declared.fault.MediumFault.{MediumFault}
use Rattle.medium.specs.declared.fault.MediumFault.TheVariants.{Read, Write, Flush}
use Rattle.medium.specs.declared.power.Power.{Power}

-- the power is on, and nothing is to be refused
abbrev pub powered : Power
powered = record { fuse = None; fail = None; off = false }

-- the fuse is for calls of these kinds
abbrev pub is_fused : MediumFault → Bool
is_fused Read = false
is_fused Write = true
is_fused Flush = true

-- no write or flush happens any more
abbrev pub is_used_up : Option ℕ → Bool
is_used_up None = false
is_used_up (Some writes) = writes == 0

-- one write or flush less that happens
abbrev pub burnt : Option ℕ → Option ℕ
burnt None = None
burnt (Some writes) = Some (writes - 1)

-- this call is the one that fails
abbrev pub is_failing : Option ℕ → Bool
is_failing None = false
is_failing (Some calls) = calls == 1

-- one call less up to the one that fails
abbrev pub counted_down : Option ℕ → Option ℕ
counted_down None = None
counted_down (Some calls) = if nat_lt 1 calls then Some (calls - 1) else None

-- a call of this kind happens, where there is room for it or not
abbrev pub admits : Power → MediumFault → Bool → Bool
admits p kind fits =
    not p.off && not (is_fused kind && is_used_up p.fuse) && not (is_failing p.fail) && fits

-- the fuse counts what happens, and a write or flush that it does not allow turns the power off
abbrev pub after_call : Power → MediumFault → Bool → Power
after_call p kind fits = record {
  fuse = if admits p kind fits && is_fused kind then burnt p.fuse else p.fuse;
  fail = counted_down p.fail;
  off = p.off || (is_fused kind && is_used_up p.fuse);
}

abbrev pub is_armed : Option ℕ → ℕ
is_armed None = 0
is_armed (Some calls) = 1

-- How many faults are armed, none or one or two: a fuse, where the power is still on, and a
-- failure.
abbrev pub faults_in : Power → ℕ
faults_in p = (if p.off then 0 else is_armed p.fuse) + is_armed p.fail
