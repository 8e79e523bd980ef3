-- How a parser walks over words: a few at a time, since all at once are too much for one computation.
use Rattle.std.proofs.Common.{◌≡◌, ◌∙◌, ℕ, List, [], ◌∷◌, ◌++◌, true, false, None, Some, codes, ap, refl}
use Rattle.std.specs.Prelude.{◌&&◌, Bool, fold}
use Rattle.std.specs.Cmp.Derive.{both_true}
use Rattle.std.specs.List.{list_all}
use Rattle.std.specs.Str.{bytes_eq}
use Rattle.clap.specs.Lexer.{strip_byte}
use Rattle.clap.specs.Takes.{level_passes, walk_passes, settle_passes, default_passes, is_valid}
use Rattle.clap.specs.Simple.{Shape}
use Rattle.clap.specs.Walk.{Names, Walk, walked, walk_from, nothing_held, after_step, Held, plain_word, settled, value, option, next}
use Rattle.clap.specs.Walk.{finished}

-- a word that begins with no hyphen
pub record IsPlain (word : List ℕ) : Type 0 where
  pub stripped : strip_byte 45 word ≡ None
  pub other : bytes_eq word (codes "--") ≡ false

-- the walk before the words
abbrev pub start : Walk
start = walk_from nothing_held

-- the walk at a command, which is not walked over
abbrev pub stopped_at : List ℕ → List (List ℕ) → Walk
stopped_at verb words = record start { stopped = Some (verb, words) }

module _ (shape : Shape) where
  -- the walk behind a word that has a place of its own
  abbrev pub behind_word : List ℕ → Walk → Walk
  behind_word word w = after_step shape.rules word w w.held value

  -- an option waits for its value
  abbrev waiting_for : List ℕ → Walk → Held
  waiting_for name w = record (settled shape.rules w.held) { pending = Some (name, []) }

  -- the walk behind an option's name and its value
  abbrev pub behind_option : List ℕ → List ℕ → List ℕ → Walk → Walk
  behind_option name word given w =
      let at_name = after_step shape.rules word w (waiting_for name w) (next (option name)) in
      let met = plain_word shape.rules (option name) given at_name.held in after_step shape.rules given at_name met.0 met.1

  -- these words pass behind a walk, and lead to another
  pub record Leads (w v : Walk) (words : List (List ℕ)) : Type 0 where
    pub pass : walk_passes shape [] w words ≡ true
    pub to : fold (walked shape.rules []) w words ≡ v

  pub leads-none : (w : Walk) → Leads w w []
  unfolding walk_passes
  leads-none w = record { pass = refl; to = refl }

  -- what is checked behind the last word
  abbrev pub end_passes : Walk → Bool
  end_passes w =
      settle_passes shape.rules shape.args_override_self w.held
      && (list_all default_passes shape.rules && is_valid shape (finished shape.rules w.held) false)

  pub level : {v : Walk} {words : List (List ℕ)} → Leads start v words → end_passes v ≡ true
      → level_passes shape [] nothing_held words false ≡ true
  level leads ends = both_true leads.pass (ap end_passes leads.to ∙ ends)

-- no word behind a command is one of the walk
pub passes_stopped : (shape : Shape) (names : Names) (verb : List ℕ) (seen words : List (List ℕ))
    → walk_passes shape names (stopped_at verb seen) words ≡ true
unfolding walk_passes walked
passes_stopped shape names verb seen [] = refl
passes_stopped shape names verb seen (word ∷ words) = passes_stopped shape names verb (seen ++ word ∷ []) words
