-- The log of an image, as C is told it who plans one.
use Rattle.std.specs.Prelude.{◌≡◌, ◌⊎◌, ◌<◌, ℕ, ◌+◌, ◌*◌}
use Rattle.std.specs.Int.{next_multiple_of}
use Rattle.journal.specs.{Places.{limit_of, slot_sectors_of, IsFirstHome}, Sectors.version_of}
use Rattle.journal.specs.declared.log_format.LogFormat.{LogFormat}
use Rattle.disk_machine.specs.{Codes.BAD_SIZES, Room.AreSlots}
use Rattle.calls.specs.declared.log.UsbDiskLog.{UsbDiskLog}

-- the sector behind a log of `slots` slots
abbrev pub end_of_log : LogFormat → ℕ → ℕ
end_of_log format slots = 2 + slot_sectors_of format * slots

-- a log of `slots` slots, with home at the first multiple of `page` from its end on
abbrev pub log_by : LogFormat → ℕ → ℕ → UsbDiskLog
log_by format slots page = record {
  limit = limit_of format;
  slot_sectors = slot_sectors_of format;
  end = end_of_log format slots;
  home = next_multiple_of (end_of_log format slots) page;
}

-- an image may have a log of `slots` slots, and home there
pub record IsPossibleLog (format : LogFormat) (slots page : ℕ) : Type 0 where
  pub slots_are : AreSlots slots
  pub some_page : 0 < page
  pub home_is : IsFirstHome format slots (log_by format slots page).home

-- `version` is that of a format in which the log is possible
abbrev pub IsLog : ℕ → ℕ → ℕ → UsbDiskLog → Type 0
IsLog version slots page log = (format : LogFormat) × (version ≡ version_of format)
    × IsPossibleLog format slots page × (log ≡ log_by format slots page)

-- `version` is that of no such format
abbrev pub IsNoLog : ℕ → ℕ → ℕ → Type 0
IsNoLog version slots page =
    (format : LogFormat) → version ≡ version_of format → ¬ IsPossibleLog format slots page

-- the log is written, or it is refused and nothing is
abbrev pub LogOfPost : ℕ → ℕ → ℕ → UsbDiskLog → UsbDiskLog → ℕ → Type 0
LogOfPost version slots page old new code = (IsLog version slots page new × (code ≡ 0))
    ⊎ (IsNoLog version slots page × (new ≡ old) × (code ≡ BAD_SIZES))
