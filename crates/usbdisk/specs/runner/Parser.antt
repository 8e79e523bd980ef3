-- The command line, as its parser knows it.
use Rattle.std.specs.Prelude.{◌≡◌, ℕ, List, codes, true, false, Some}
use Rattle.clap.specs.Words.{App, Rule, app_of, new_app, new_rule, rule_of, with_rule}
use Rattle.clap.specs.Words.{with_subcommand}
use Rattle.clap.specs.declared.builder.arg.Arg.{Arg}
use Rattle.clap.specs.declared.builder.command.Command.{Command}
use Rattle.clap.specs.declared.builder.command.Command.TheViews.{out-Command}

-- a parser of this command line, none of whose options is one of its subcommands too
pub record IsParserOf (app : App) (command : Command) : Type 0 where
  pub shape : app_of command ≡ app
  pub local : (out-Command command).has_globals ≡ false

-- a word or an option by this rule, for this command alone
pub record IsArgOf (rule : Rule) (arg : Arg) : Type 0 where
  pub rule_is : rule_of arg ≡ rule
  pub local : arg.global ≡ false

-- a word that must be there
abbrev pub word_rule : List ℕ → Rule
word_rule name = record (new_rule name) { required = true }

-- an option with a value, which must be there
abbrev pub option_rule : List ℕ → Rule
option_rule name = record (new_rule name) { long = Some name; required = true }

-- an option with a value, which may be there
abbrev pub free_option_rule : List ℕ → Rule
free_option_rule name = record (new_rule name) { long = Some name }

abbrev pub format_app : App
format_app =
    with_rule (with_rule (with_rule (with_rule (new_app (codes "format"))
    (word_rule (codes "IMAGE"))) (option_rule (codes "blocks"))) (option_rule (codes "slots")))
    (free_option_rule (codes "format"))

abbrev pub migrate_app : App
migrate_app = with_rule (new_app (codes "migrate")) (word_rule (codes "IMAGE"))

-- `run` or `sim`
abbrev pub script_app : List ℕ → App
script_app verb =
    with_rule (with_rule (with_rule (new_app verb) (word_rule (codes "IMAGE")))
    (word_rule (codes "SCRIPT"))) (free_option_rule (codes "packet"))

-- the program with no subcommand yet
abbrev pub bare_app : App
bare_app = record (new_app (codes "usbdisk")) {
  top = record (new_app (codes "usbdisk")).top
      { no_binary_name = true; subcommand_required = true };
}

abbrev pub usbdisk_app : App
usbdisk_app =
    with_subcommand (with_subcommand (with_subcommand (with_subcommand bare_app format_app.top)
    migrate_app.top) (script_app (codes "run")).top) (script_app (codes "sim")).top
