-- Where the parts of a medium stand: super, head, slots of the log, and blocks at home.
use Rattle.std.specs.Prelude.{◌≤◌, ◌<◌, ℕ, ◌+◌, ◌*◌, ◌/◌, ◌^◌, Option, Some, None}
use Rattle.journal.specs.declared.log_format.LogFormat.{LogFormat, TheVariants.{One, Two}}

-- a medium's format, how many blocks and how many log slots it has, and where block 0 is at home
pub record Shape : Type 0 where
  pub format : LogFormat
  pub blocks : ℕ
  pub slots : ℕ
  pub home : ℕ

-- how many blocks a record has at most
abbrev pub limit_of : LogFormat → ℕ
limit_of One = 48
limit_of Two = 240

-- how many sectors a slot has
abbrev pub slot_sectors_of : LogFormat → ℕ
slot_sectors_of One = 50
slot_sectors_of Two = 249

-- how many flushes make a record durable
abbrev pub flushes_of : LogFormat → ℕ
flushes_of One = 2
flushes_of Two = 1

-- How many calls a record of the most blocks takes: its sectors with their flushes, and then its
-- blocks home, the head, and a flush before and behind it. That is 103 in format 1 and 493 in
-- format 2.
abbrev pub record_calls_of : LogFormat → ℕ
record_calls_of format = slot_sectors_of format + flushes_of format + (limit_of format + 3)

-- where in a slot the bytes of its record's first block stand; in format 2 all but the first 8
abbrev pub first_data_of : LogFormat → ℕ
first_data_of One = 1
first_data_of Two = 8

-- The sectors of a slot that tell whether a record is there lie in one run: from which one of the
-- slot on, and how many. In format 1 it is the whole slot, and in format 2 the commit alone.
abbrev pub first_told_of : LogFormat → ℕ
first_told_of One = 0
first_told_of Two = 248

abbrev pub told_of : LogFormat → ℕ
told_of One = 50
told_of Two = 1

-- where that run begins
abbrev pub told_place : LogFormat → ℕ → ℕ
told_place format slot = 2 + slot_sectors_of format * slot + first_told_of format

-- how many sectors more there may be between the log and home, and one
abbrev pub gap_of : LogFormat → ℕ
gap_of One = 1
gap_of Two = 249

-- Home begins where a log of `slots` slots ends. In format 2 less than a slot may lie between them:
-- a migration leaves that, and a page of the device may begin there.
abbrev pub IsFirstHome : LogFormat → ℕ → ℕ → Type 0
IsFirstHome format slots home =
    (2 + slot_sectors_of format * slots ≤ home)
    × (home < 2 + slot_sectors_of format * slots + gap_of format)

-- the first sector of the blocks at home
abbrev pub first_home : Shape → ℕ
first_home shape = shape.home

-- how many sectors the super, the head, the log and the blocks at home take
abbrev pub sectors_of : Shape → ℕ
sectors_of shape = first_home shape + shape.blocks

-- the shape of a new medium with this many blocks and slots
abbrev pub new_shape : LogFormat → ℕ → ℕ → Shape
new_shape format blocks slots = record {
  format = format;
  blocks = blocks;
  slots = slots;
  home = 2 + slot_sectors_of format * slots;
}

-- the same, with home in this sector where one is given
abbrev pub shape_with : LogFormat → ℕ → ℕ → Option ℕ → Shape
shape_with format blocks slots None = new_shape format blocks slots
shape_with format blocks slots (Some home) = record {
  format = format;
  blocks = blocks;
  slots = slots;
  home = home;
}

-- the sizes are in their limits, and home begins where it may
pub record IsInLimits (shape : Shape) : Type 0 where
  pub some_blocks : 1 ≤ shape.blocks
  pub most_blocks : shape.blocks ≤ 2 ^ 31
  pub some_slots : 1 ≤ shape.slots
  pub most_slots : shape.slots ≤ 64
  pub home_is : IsFirstHome shape.format shape.slots shape.home

-- The shape after a migration to format 2: the same blocks at home in the same sectors, and as many
-- slots as lie in the log of format 1.
abbrev pub migrated : Shape → Shape
migrated shape = record {
  format = Two;
  blocks = shape.blocks;
  slots = slot_sectors_of One * shape.slots / slot_sectors_of Two;
  home = shape.home;
}
