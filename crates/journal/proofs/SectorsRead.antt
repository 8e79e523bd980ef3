-- Calls that read sectors of the log, and blocks of a whole record that were read back.
use Rattle.std.proofs.Common.{◌≡◌, ℕ, ◌+◌, ◌*◌, ◌%◌, ◌<◌, ◌≤◌, arith, List, [], ◌++◌, length, drop, get_or, refl, Option, ◌∙◌, take, sym}
use Rattle.std.proofs.{Common.{inl, inr, Some, None, MatchOption, All, below_more, ⊎_elim}, lemmas.{Nat.mod_below, Grind.common_steps}}
use Rattle.std.proofs.lemmas.List.{map-append, take_all}
use Rattle.medium.{specs.Medium.Image, proofs.{Moments.quiet_call, SectorsRead.look_below}}
use Rattle.journal.specs.{Reading.{AreStamped, IsRead, HasDescriptor, NamesBlocks}, declared.log_format.LogFormat.LogFormat}
use Rattle.journal.specs.declared.{log_format.LogFormat.TheVariants.{One, Two}, super_sector.Super.Super, record.Record.Record}
use Rattle.journal.specs.{declared.naming_stage.NamingStage.{NamingStage, TheVariants.{Descriptor2, Missing}}, Places.limit_of}
use Rattle.journal.specs.{Places.{first_data_of, IsFirstHome, Shape}, Formats.{layout_of, IsWhole, shape_of, record_in}, Record.Entry}
use Rattle.journal.specs.{Record.{numbers_of, block_of, begun_with, first_of}, Layout.{slot_at, IsWholeIn}, Format2.firsts_of}
use Rattle.journal.specs.{Format2.{place_bytes, IsDescriptorTwo, IsCommitTwo, descriptors_of, entries_at, chunk_of}, Sectors.IsCommit}
use Rattle.journal.specs.{Sectors.{IsDescriptor, IsRising}, Naming.{IsDescribed, AreNamedTo, IsFound, IsKnown}}
use Rattle.journal.proofs.SlotTwo.{place_there, placed, commit_count, numbers_long, named, named_alone, commit_whole, described_whole}
use Rattle.journal.proofs.{SlotTwo.{record_read, whole_two, take_chunk, read_long, chunk_numbers, chunk_firsts}, Wholeness.as_format}
use Rattle.journal.proofs.Wholeness.{of_format}
use Rattle.journal.proofs.Formats.{laws_of, descriptor_there, commit_there, numbers_read, whole_in, place_there as place_there_one}

-- a data place stands before home
pub place_before : (format : LogFormat) (slots home slot i : ℕ) → IsFirstHome format slots home → slot < slots → i < limit_of format
    → 2 + (layout_of format).slot_sectors * slot + first_data_of format + i < home
place_before format slots home slot i first low inside = grind (arith, first)

-- a slot ends before home
pub within : (sizes : Super) (stamp slot : ℕ) {format : LogFormat} → slot ≡ stamp % sizes.slots → sizes.format ≡ format
    → 2 + (layout_of format).slot_sectors * slot + (layout_of format).slot_sectors ≤ sizes.home
within sizes stamp slot is same = grind (arith, sizes.home_is, mod_below stamp sizes.slots sizes.some_slots)

pub ruleset copies = (quiet_call, look_below, place_before)

-- its first bytes, where its data place does not have them, and the rest of that make the block
pub begun_is : (format : LogFormat) (shape : Shape) (image : Image) (stamp : ℕ) (entries : List Entry)
    → IsWholeIn (layout_of format) shape image stamp entries → (i : ℕ) → i < length entries → (first : Option (List ℕ))
    → first ≡ first_of format entries i → (sector : List ℕ)
    → sector ≡ image (slot_at (layout_of format) shape stamp + first_data_of format + i) → begun_with first sector ≡ block_of entries i
unfolding place_bytes
begun_is One shape image stamp entries w i below first is sector there = grind (arith, place_there_one shape image stamp entries w i below)
begun_is Two shape image stamp entries w i below first is sector there =
    let it = place_there shape image stamp entries w i below in grind (arith, common_steps)

-- what stands before the data places of these blocks has these first bytes of them
abbrev pub firsts_before : LogFormat → List Entry → List (List ℕ)
firsts_before One entries = []
firsts_before Two entries = firsts_of entries

-- they and the rest of a data place make the block
first_put : (format : LogFormat) (entries : List Entry) (i : ℕ) (sector : List ℕ) → i < length entries → length (block_of entries i) ≡ 512
    → begun_with (first_of format entries i) sector ≡ block_of entries i
    → get_or (firsts_before format entries) i [] ++ drop (length (get_or (firsts_before format entries) i [])) sector ≡ block_of entries i
first_put One entries i sector below sized begun = begun
first_put Two entries i sector below sized begun = grind (arith, common_steps, begun, sized)

-- a record that is whole is the one that its slot spells, and this was read of it
pub read_is : (shape : Shape) (image : Image) (stamp : ℕ) (entries : List Entry) → IsWhole shape image stamp entries → (read : Record)
    → read.numbers.items ≡ numbers_of ((layout_of shape.format).read image (slot_at (layout_of shape.format) shape stamp))
    → read.firsts.items ≡ firsts_before shape.format ((layout_of shape.format).read image (slot_at (layout_of shape.format) shape stamp))
    → IsRead shape image stamp entries read
read_is shape image stamp entries whole read numbers firsts =
    let is = (laws_of shape.format).read shape image stamp entries whole in
    let same : read.firsts.items ≡ firsts_before shape.format entries = rw is firsts in
    record {
      numbers_are = rw is numbers;
      blocks_are = λ i below. rw same (first_put shape.format entries i _ below (whole.fit.sized i (0, []) below)
          (begun_is shape.format shape image stamp entries whole i below _ refl _ refl));
    }

-- the data places of a whole record carry its stamp, in each format
pub stamped_whole : (shape : Shape) (image : Image) (stamp : ℕ) (entries : List Entry) → IsWhole shape image stamp entries
    → AreStamped shape.format shape image stamp (length entries)
stamped_whole shape image stamp entries whole =
    let two = λ (is : shape.format ≡ Two). placed shape image stamp entries (as_format is whole) in grind (arith, two)

-- ---- the sectors that name the blocks of a record are read, one by one
module _ (sizes : Super) (image : Image) (stamp : ℕ) (read : Record) where
  abbrev shape : Shape
  shape = shape_of sizes

  -- ---- format 1
  module _ (one : sizes.format ≡ One) (described : IsDescribed stamp read (image (2 + 50 * (stamp % sizes.slots)))) where
    abbrev place : ℕ
    place = 2 + 50 * (stamp % sizes.slots)

    -- the commit is there too
    pub ended : IsCommit stamp (length read.numbers.items) (image (2 + 50 * (stamp % sizes.slots) + 49))
        → All (λ b. b < sizes.blocks) read.numbers.items → IsFound (shape_of sizes) image stamp 2 (Some read)
    ended commit inside =
        let d : IsDescriptor stamp read.numbers.items (image place) =
        ⊎_elim (λ is. is) (λ none. absurd (let some = commit.some in omega (arith, some, rw none.0 at some))) described.either in
        let ends = within sizes stamp _ refl one in
        record {
          some = λ sized stamped. (
            record_in image place,
            of_format one (whole_in shape image stamp read.numbers.items d commit inside
                (λ i below. sized (place + 1 + i) (omega (arith, ends, d.block_numbers.few, below)))),
          );
          all = λ entries whole. read_is shape image stamp entries whole read
              (rw one (sym (numbers_read image place d))) (rw one described.no_firsts);
          exact = rw one refl;
        }

    -- it is not, or they name no such blocks
    pub unended : ¬ (IsCommit stamp (length read.numbers.items) (image (2 + 50 * (stamp % sizes.slots) + 49))
        × All (λ b. b < sizes.blocks) read.numbers.items) → IsFound (shape_of sizes) image stamp 2 None
    unended not = record {
      some = tt;
      all = λ entries whole.
          let w = as_format one whole in
          let there = descriptor_there shape image stamp entries w in
          ⊎_elim (λ d.
          let same = sym (numbers_read image place d) ∙ numbers_read image place there in
          not (rw same (commit_there shape image stamp entries w, w.fit.inside)))
          (λ none. none.1 _ there) described.either;
      exact = rw one refl;
    }

  -- ---- format 2
  module _ (two : sizes.format ≡ Two) where
    abbrev at : ℕ
    at = 2 + 249 * (stamp % sizes.slots)

    -- the commit was read
    pub counts : (found : Option ℕ) (next : NamingStage) (bytes : List ℕ) → bytes ≡ image (2 + 249 * (stamp % sizes.slots) + 248)
        → MatchOption found ((n : ℕ) → ¬ IsCommitTwo stamp n bytes) (λ n. IsCommitTwo stamp n bytes) → MatchOption found (next ≡ Missing)
        (λ n. next ≡ Descriptor2 n 0) → read.numbers.items ≡ [] → read.firsts.items ≡ [] → IsKnown (shape_of sizes) image stamp 1 next read
    counts None next bytes here says goes numbers firsts = rw goes (record {
      some = tt;
      all = λ entries whole. (rw here at says) _ (commit_whole _ _ _ _ (as_format two whole));
      exact = rw two (inl (rw here at says, refl));
    })
    counts (Some n) next bytes here says goes numbers firsts = rw goes (
      refl,
      record { committed = rw here at says; there = λ j below. absurd (omega (arith, below)); numbers_are = numbers; firsts_are = firsts },
    )

    module _ (n index : ℕ) (so_far : AreNamedTo image (2 + 249 * (stamp % sizes.slots)) stamp n index read)
        (more : index < descriptors_of n) where
      -- the next descriptor is not there
      pub unnamed : ¬ HasDescriptor image (2 + 249 * (stamp % sizes.slots)) stamp n index
          → IsFound (shape_of sizes) image stamp (1 + index + 1) None
      unnamed bad = record {
        some = tt;
        all = λ entries whole. bad (described_whole _ _ _ _ (as_format two whole) n so_far.committed index more);
        exact = rw two (inr (
          n,
          so_far.committed,
          index + 1,
          inl (record { first = index; inside = more; before = so_far.there; bad = bad; reads_are = refl }),
          omega arith,
        ));
      }

      -- it is
      module _ {numbers : List ℕ} {firsts : List (List ℕ)}
          (is : IsDescriptorTwo stamp n index numbers firsts (image (2 + 249 * (stamp % sizes.slots) + index))) (next : Record)
          (appended : next.numbers.items ≡ read.numbers.items ++ numbers) (put : next.firsts.items ≡ read.firsts.items ++ firsts) where
        pub named_on : AreNamedTo image (2 + 249 * (stamp % sizes.slots)) stamp n (index + 1) next
        named_on =
            let es : List Entry = entries_at image at n in
            let joined = λ (X : Type 0) (part : Entry → X). map-append part (take (30 * index) es) (chunk_of es index) in
            let chunk = take_chunk es index in
            record {
              committed = so_far.committed;
              there = below_more (HasDescriptor image at stamp n) index so_far.there (_, _, is);
              numbers_are = cc (chunk_numbers image at n is, chunk, joined ℕ (λ e. e.0), appended, so_far.numbers_are);
              firsts_are = cc (chunk_firsts image at n is, chunk, joined (List ℕ) (λ e. take 8 e.1), put, so_far.firsts_are);
            }

    -- all descriptors are there
    module _ (n : ℕ) (index : ℕ) (named_all : AreNamedTo image (2 + 249 * (stamp % sizes.slots)) stamp n index read)
        (last : index ≡ descriptors_of n) where
      all_there : (j : ℕ) → j < descriptors_of n → HasDescriptor image at stamp n j
      all_there j below = named_all.there j (omega (arith, below, last))

      all_entries : take (30 * index) (entries_at image (2 + 249 * (stamp % sizes.slots)) n)
          ≡ entries_at image (2 + 249 * (stamp % sizes.slots)) n
      all_entries = take_all (30 * index) (entries_at image at n) (omega (arith, read_long image at n, last))

      numbers_all : read.numbers.items ≡ numbers_of (entries_at image (2 + 249 * (stamp % sizes.slots)) n)
      numbers_all = rw all_entries at named_all.numbers_are

      long : length read.numbers.items ≡ n
      long = rw numbers_all (numbers_long image at n)

      -- they name blocks
      pub named_good : IsRising read.numbers.items → All (λ b. b < sizes.blocks) read.numbers.items
          → IsFound (shape_of sizes) image stamp (1 + descriptors_of n) (Some read)
      named_good rising inside =
          let ends = within sizes stamp _ refl two in
          let names : NamesBlocks image at stamp sizes.blocks (length read.numbers.items) =
          (read.numbers.items, refl, rw numbers_all (named image at n stamp all_there), rising, inside) in
          record {
            some = λ sized stamped. (
              entries_at image at n,
              of_format two (whole_two shape image stamp n named_all.committed all_there (rw (two, long) at stamped)
                  (λ x below. sized (at + x) (omega (arith, ends, below)))
                  (rw numbers_all at rising) (rw numbers_all at inside)),
            );
            all = λ entries whole. read_is shape image stamp entries whole read
                (rw (two, commit_count stamp n _ named_all.committed) numbers_all)
                (rw (two, commit_count stamp n _ named_all.committed) (rw all_entries at named_all.firsts_are));
            exact = rw two (rw (← long) at named_all.committed, names, omega (arith, long));
          }

      -- they name none
      pub named_bad : ¬ (IsRising read.numbers.items × All (λ b. b < sizes.blocks) read.numbers.items)
          → IsFound (shape_of sizes) image stamp (1 + descriptors_of n) None
      named_bad not =
          let none : ¬ NamesBlocks image at stamp sizes.blocks n = λ fit.
          let same = named_alone image at n stamp fit.0 fit.1 fit.2 ∙ sym numbers_all in
          not (rw same at fit.3, rw same at fit.4) in
          record {
            some = tt;
            all = λ entries whole.
                let same = rw (commit_count stamp n _ named_all.committed) at (record_read _ _ _ _ (as_format two whole)) in
                not (rw numbers_all (rw same at whole.fit.rising), rw numbers_all (rw same at whole.fit.inside));
            exact = rw two (inr (n, named_all.committed, descriptors_of n, inr (all_there, none, refl), refl));
          }
