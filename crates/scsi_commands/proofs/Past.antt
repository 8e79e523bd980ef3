use Rattle.std.proofs.Common.{◌≡◌, ◌≤◌, ◌<◌, ◌+◌, ◌-◌, ◌==◌, ℕ, List, [], ◌∷◌, ◌++◌, refl, ap, ◌∙◌, length, drop, arith, rules}
use Rattle.std.proofs.{Common.{length-append, length-drop}, Math.ListN.get_or-append, lemmas.List.drop-append-le, lemmas.Bool.le-leb}
use Rattle.std.specs.Prelude.{find}
use Rattle.byteorder.specs.{Endian.big_number, Numbers.big_from-append}
use Rattle.scsi.specs.{Judging.{Test, judged}, Commands.{Row, byte_at, number_at, form_tests, judged_by, judged_by_row, command_of, table}}
use Rattle.scsi.specs.Commands.{request_sense, inquiry, mode_select, mode_sense, read_capacity_16}
use Rattle.scsi.specs.Commands.{read_10, write_10, read_16, write_16, synchronize_cache_10, synchronize_cache_16}
use Rattle.scsi_commands.specs.Supported.{command_size}
use Rattle.scsi_commands.proofs.Rows.{by_same_rows}

-- a byte of a block, where more follows
byte_past : (place : ℕ) (block more : List ℕ) → place < length block → byte_at place (block ++ more) ≡ byte_at place block
byte_past place block more inside = get_or-append block more 0 place inside

-- a number of a block, where more follows
number_past : (place bytes : ℕ) (block more : List ℕ) → place + bytes ≤ length block
    → number_at place bytes (block ++ more) ≡ number_at place bytes block
unfolding number_at
number_past place bytes block more inside =
    ap (big_number bytes) (drop-append-le place block more (omega arith))
    ∙ big_from-append bytes (drop place block) more (rw length-drop (omega arith))

-- the tests of every command, where more follows
form_past : (size : ℕ) (allowed block more : List ℕ) → 1 < size → size ≤ length block
    → form_tests size allowed (block ++ more) ≡ form_tests size allowed block
unfolding form_tests
form_past size allowed block more two enough =
    let still : size ≤ length (block ++ more) = rw length-append (omega arith) in
    let last = byte_past (size - 1) block more (omega arith) in
    rw (le-leb size (length (block ++ more)) still, le-leb size (length block) enough, last, byte_past 1 block more (omega arith)) refl

-- what a block says by a row of its command, where more follows
row_past : (block more : List ℕ) → command_size (byte_at 0 block) ≤ length block → (row row' : Row)
    → (row'.size ≤ length block → row ≡ row') → 1 < row'.size → row'.size ≡ command_size row'.code → row'.code ≡ byte_at 0 block
    → judged_by (block ++ more) row ≡ judged_by block row'
row_past block more enough row row' same two size code =
    let fits : row'.size ≤ length block = rw (size, code) enough in
    ap (judged_by (block ++ more)) (same fits)
    ∙ ap (λ (tests : List Test). judged (tests ++ row'.fields) row'.command) (form_past row'.size row'.byte_1 block more two fits)

-- each row of a command reads no byte past those that the command has
request_sense_past : (block more : List ℕ) → 6 ≤ length block → request_sense (block ++ more) ≡ request_sense block
request_sense_past block more enough = rw (byte_past 4 block more (omega arith)) refl

inquiry_past : (block more : List ℕ) → 6 ≤ length block → inquiry (block ++ more) ≡ inquiry block
inquiry_past block more enough =
    rw (byte_past 1 block more (omega arith), byte_past 2 block more (omega arith), number_past 3 2 block more (omega arith)) refl

mode_select_past : (block more : List ℕ) → 6 ≤ length block → mode_select (block ++ more) ≡ mode_select block
mode_select_past block more enough = rw (byte_past 4 block more (omega arith)) refl

mode_sense_past : (block more : List ℕ) → 6 ≤ length block → mode_sense (block ++ more) ≡ mode_sense block
mode_sense_past block more enough =
    rw (byte_past 2 block more (omega arith), byte_past 3 block more (omega arith), byte_past 4 block more (omega arith)) refl

read_10_past : (n limit : ℕ) (block more : List ℕ) → 10 ≤ length block → read_10 n limit (block ++ more) ≡ read_10 n limit block
read_10_past n limit block more enough =
    rw (byte_past 1 block more (omega arith), number_past 2 4 block more (omega arith), number_past 7 2 block more (omega arith)) refl

write_10_past : (n limit : ℕ) (block more : List ℕ) → 10 ≤ length block → write_10 n limit (block ++ more) ≡ write_10 n limit block
write_10_past n limit block more enough =
    rw (byte_past 1 block more (omega arith), number_past 2 4 block more (omega arith), number_past 7 2 block more (omega arith)) refl

synchronize_cache_10_past : (n : ℕ) (block more : List ℕ) → 10 ≤ length block
    → synchronize_cache_10 n (block ++ more) ≡ synchronize_cache_10 n block
synchronize_cache_10_past n block more enough = rw (number_past 2 4 block more (omega arith), number_past 7 2 block more (omega arith)) refl

read_16_past : (n limit : ℕ) (block more : List ℕ) → 16 ≤ length block → read_16 n limit (block ++ more) ≡ read_16 n limit block
read_16_past n limit block more enough =
    rw (byte_past 1 block more (omega arith), number_past 2 8 block more (omega arith), number_past 10 4 block more (omega arith)) refl

write_16_past : (n limit : ℕ) (block more : List ℕ) → 16 ≤ length block → write_16 n limit (block ++ more) ≡ write_16 n limit block
write_16_past n limit block more enough =
    rw (byte_past 1 block more (omega arith), number_past 2 8 block more (omega arith), number_past 10 4 block more (omega arith)) refl

synchronize_cache_16_past : (n : ℕ) (block more : List ℕ) → 16 ≤ length block
    → synchronize_cache_16 n (block ++ more) ≡ synchronize_cache_16 n block
synchronize_cache_16_past n block more enough =
    rw (number_past 2 8 block more (omega arith), number_past 10 4 block more (omega arith)) refl

read_capacity_16_past : (block more : List ℕ) → 16 ≤ length block → read_capacity_16 (block ++ more) ≡ read_capacity_16 block
read_capacity_16_past block more enough = rw (number_past 10 4 block more (omega arith)) refl

-- a block that is long enough for its command is not empty
has_some : (block : List ℕ) → command_size (byte_at 0 block) ≤ length block → 0 < length block
has_some [] enough = absurd (omega (arith, enough))
has_some (first ∷ rest) enough = omega arith

-- bytes past the command do not matter
pub past : (n limit : ℕ) (block more : List ℕ) → command_size (byte_at 0 block) ≤ length block
    → command_of n limit (block ++ more) ≡ command_of n limit block
unfolding command_of
past n limit block more enough =
    let code = byte_at 0 block in
    let whole = block ++ more in
    ap (λ (k : ℕ). judged_by_row whole (find (λ (row : Row). row.code == k) (table n limit whole)))
    (byte_past 0 block more (has_some block enough))
    ∙ by_same_rows whole block code (table n limit whole) (table n limit block)
    (search (
      rules,
      row_past block more enough,
      request_sense_past,
      inquiry_past,
      mode_select_past,
      mode_sense_past,
      read_10_past,
      write_10_past,
      synchronize_cache_10_past,
      read_16_past,
      write_16_past,
      synchronize_cache_16_past,
      read_capacity_16_past,
    ))
