-- Both formats keep the laws of a layout.
use Rattle.std.proofs.Common.{◌≡◌, ℕ, ◌+◌, ◌-◌, ◌<◌, ◌≤◌, List, length, arith, rules, ◌*◌, ◌%◌, [], get_or, ◌∙◌, ◌∷◌, All, ◌/◌, sym, inr}
use Rattle.std.proofs.lemmas.{Bool.{cases_lt, Decides.nat_tests}, List.{length-map, ext_get_or, Elements.All-from_get_or}}
use Rattle.std.proofs.{lemmas.List.FromFn.{fill_by_all, get_or-map-range_with_len, length-map-range_with_len}, Math.ListN.get_or-map}
use Rattle.std.specs.Prelude.{if◌then◌else◌, nat_lt, replicate}
use Rattle.journal.specs.{Sectors.{spelling, number_in, descriptor_mark, commit_mark, IsDescriptor, IsCommit}, Record.{Entry, numbers_of}}
use Rattle.journal.specs.{Record.block_of, Layout.{AreEntries, IsWholeIn, IsRecordOf, Laws}, Formats.{format1, Carries1, entry_in}}
use Rattle.journal.{specs.{Formats.{record_in, layout_of}, Places.{Shape, limit_of, slot_sectors_of}}, proofs.SectorNumbers.commit_says}
use Rattle.journal.{specs.declared.log_format.LogFormat.{LogFormat, TheVariants.{One, Two}}, proofs.SectorNumbers.descriptor_says}
use Rattle.journal.proofs.{SectorNumbers.descriptor_number, Wholeness.{record_of, parts}}
use Rattle.medium.specs.Medium.{Image}
use Rattle.journal.specs.Format2.{commit_mark as commit_mark_two, chunk_of, firsts_of, IsCommitTwo, format2, Carries2}
use Rattle.journal.proofs.SlotTwo.{header_says, place_says, descriptor_two, record_read as read2}

module _ {blocks s : ℕ} {entries : List Entry} (r : IsRecordOf format1 blocks s entries) where
  pub descriptor_of : IsDescriptor s (numbers_of entries)
      (spelling (descriptor_mark ∷ s ∷ length (numbers_of entries) ∷ numbers_of entries))
  descriptor_of = let long = length-map entries (λ (e : Entry). e.0) in search (rules, arith)

  pub commit_of : IsCommit s (length entries) (spelling (commit_mark ∷ s ∷ length entries ∷ []))
  commit_of = search rules

  -- the descriptor and the commit carry the record's stamp
  pub ends_carry : (p : ℕ) → (1 ≤ p → length entries + 1 ≤ p) → Carries1 (format1.offset (length entries) p) s (format1.part s entries p)
  ends_carry p ends = grind (arith, parts, descriptor_of, commit_of)

-- a stamp that a sector carries is its second number
pub carried1 : (o s : ℕ) (bytes : List ℕ) → Carries1 o s bytes → number_in bytes 1 ≡ s
carried1 o s bytes c =
    let commit = λ (high : 49 ≤ o). (commit_says (c.commit high).1).0 in
    grind (arith, descriptor_says, commit, c.descriptor, c.place, cases_lt o 1)

-- what is read where a descriptor stands
module _ (image : Image) (at : ℕ) {stamp : ℕ} {numbers : List ℕ} (d : IsDescriptor stamp numbers (image at)) where
  many : length (record_in image at) ≡ length numbers
  many = length-map-range_with_len (entry_in image at) 0 _ ∙ (descriptor_says d).1

  entry_read : (i : ℕ) → i < length numbers → get_or (record_in image at) i (0, []) ≡ (get_or numbers i 0, image (at + 1 + i))
  entry_read i below = rw (
    get_or-map-range_with_len (entry_in image at) 0 (number_in (image at) 2) i i (0, [])
        (omega (arith, (descriptor_says d).1)) (omega arith),
    descriptor_number d i below,
  )

  -- its block numbers
  pub numbers_read : numbers_of (record_in image at) ≡ numbers
  numbers_read =
      let long = length-map (record_in image at) (λ (e : Entry). e.0) in
      ext_get_or 0 _ numbers (long ∙ many) (λ i below.
      rw (get_or-map (λ (e : Entry). e.0) (record_in image at) i (0, []), entry_read i (omega (arith, long, many))))

module _ (shape : Shape) (image : Image) (s : ℕ) (es : List Entry) (w : IsWholeIn format1 shape image s es) where
  pub descriptor_there : IsDescriptor s (numbers_of es) (image (2 + 50 * (s % shape.slots)))
  descriptor_there = grind (arith, parts, w.there 0, descriptor_of (record_of w))

  pub place_there : (i : ℕ) → i < length es → image (2 + 50 * (s % shape.slots) + 1 + i) ≡ block_of es i
  place_there i below = grind (arith, parts, w.there (i + 1))

  -- its commit
  pub commit_there : IsCommit s (length (numbers_of es)) (image (2 + 50 * (s % shape.slots) + 49))
  commit_there = rw (length-map es (λ (e : Entry). e.0)) (grind (arith, parts, w.there (length es + 1), commit_of (record_of w)))

  -- a whole record is the one that its slot spells
  pub record_read : es ≡ record_in image (2 + 50 * (s % shape.slots))
  record_read =
      let many = length-map es (λ (e : Entry). e.0) in
      let says = (descriptor_says descriptor_there).1 in
      fill_by_all (entry_in image (2 + 50 * (s % shape.slots))) es _ (0, []) (omega (arith, many, says)) (λ i below. rw (
        descriptor_number descriptor_there i (omega (arith, below, says)),
        get_or-map (λ (e : Entry). e.0) es i (0, []),
        place_there i (omega (arith, below, many, says)),
      ))

-- a record is whole where its descriptor and its commit are there
module _ (shape : Shape) (image : Image) (stamp : ℕ) (numbers : List ℕ)
    (described : IsDescriptor stamp numbers (image (2 + 50 * (stamp % shape.slots))))
    (committed : IsCommit stamp (length numbers) (image (2 + 50 * (stamp % shape.slots) + 49)))
    (below_all : All (λ b. b < shape.blocks) numbers)
    (sized : (i : ℕ) → i < length numbers → length (image (2 + 50 * (stamp % shape.slots) + 1 + i)) ≡ 512) where
  -- these are the blocks of a whole record
  pub whole_in : IsWholeIn format1 shape image stamp (record_in image (2 + 50 * (stamp % shape.slots)))
  whole_in =
      let es = record_in image (2 + 50 * (stamp % shape.slots)) in
      let long = many image _ described in
      let names = numbers_read image _ described in
      let blocks = All-from_get_or (λ e. length e.1 ≡ 512) es (0, []) (λ i below.
      let inside : i < length numbers = omega (arith, below, long) in rw (entry_read image _ described i inside) (sized i inside)) in
      let fit : AreEntries 48 shape.blocks es = grind (arith, names, long, blocks, described.block_numbers) in
      record {
        fit = fit;
        least = described.least;
        below = described.most;
        there = λ p below. grind (arith, parts, described.spelled, committed.spelled, names, long, entry_read image _ described (p - 1));
      }

-- ---- format 2, and both

pub commit_two : {blocks s : ℕ} {entries : List Entry} → IsRecordOf format2 blocks s entries
    → IsCommitTwo s (length entries) (spelling (commit_mark_two ∷ s ∷ length entries ∷ []))
commit_two r = search rules

pub carries2 : (blocks s : ℕ) (entries : List Entry) (p : ℕ) → IsRecordOf format2 blocks s entries
    → Carries2 (format2.offset (length entries) p) s (format2.part s entries p)
carries2 blocks s entries p r =
    let few = r.fit.few in
    record {
      most = omega (arith, r.below);
      descriptor = λ low. let is : p < (length entries + 29) / 30 = grind (arith, parts) in (
        length entries,
        numbers_of (chunk_of entries p),
        firsts_of (chunk_of entries p),
        grind (arith, parts, descriptor_two p r (omega (arith, is))),
      );
      place = λ low high. (block_of entries (p - (length entries + 29) / 30), grind (arith, parts));
      commit = λ high. (length entries, grind (arith, parts, commit_two r));
    }

-- which number of the sector at this offset of a slot is the stamp that it carries
pub stamp_place : ℕ → ℕ
stamp_place o = if nat_lt o 8 then 1 else (if nat_lt o 248 then 0 else 1)

pub carried2 : (o s : ℕ) (bytes : List ℕ) → Carries2 o s bytes → number_in bytes (stamp_place o) ≡ s
unfolding stamp_place
carried2 o s bytes c =
    let commit = λ (high : 248 ≤ o). (commit_says (c.commit high).1).0 in
    grind (arith, nat_tests, header_says, place_says, commit, c.descriptor, c.place)

pub format1_laws : Laws format1
unfolding number_in
format1_laws = record {
  some_parts = λ n. omega arith;
  inside = λ n p few below. grind (arith, parts);
  apart = λ n p q few hp hq e. grind (arith, parts);
  last = λ n. grind (arith, parts);
  carries = λ blocks s entries p r below. search (rules, arith, cases_lt p (length entries + 1), ends_carry r p);
  last_is_behind = λ n. omega arith;
  one_stamp = λ blocks s t entries p r below c.
      let ends : 1 ≤ p → length entries + 1 ≤ p = λ some. grind (arith, parts, c.place, r.fit.few) in
      grind (arith, carried1 _ t _ c, carried1 _ s _ (ends_carry r p ends));
  last_part = λ s a b same. grind (arith, parts);
  count = λ blocks s a b ra rb e. grind (arith, parts, commit_says (commit_of ra), commit_says (commit_of rb));
  read = record_read;
  zeros = λ o s c. sym (carried1 o s _ c);
}

pub format2_laws : Laws format2
unfolding stamp_place number_in
format2_laws = record {
  some_parts = λ n. omega arith;
  inside = λ n p few below. grind (arith, parts);
  apart = λ n p q few hp hq e. grind (arith, parts);
  last = λ n. grind (arith, parts);
  carries = λ blocks s entries p r below. inr (carries2 blocks s entries p r);
  last_is_behind = λ n. omega arith;
  one_stamp = λ blocks s t entries p r below c. sym (carried2 _ t _ c) ∙ carried2 _ s _ (carries2 blocks s entries p r);
  last_part = λ s a b same. grind (arith, parts);
  count = λ blocks s a b ra rb e. grind (arith, parts, commit_says (commit_two ra), commit_says (commit_two rb));
  read = read2;
  zeros = λ o s c. grind (arith, nat_tests, carried2 o s (replicate 512 0) c);
}

-- each format keeps them
pub laws_of : (format : LogFormat) → Laws (layout_of format)
laws_of One = format1_laws
laws_of Two = format2_laws

-- the limit of a format is that of its layout
pub most_is : (format : LogFormat) → (layout_of format).most ≡ limit_of format
most_is format = grind arith

-- and so is the size of a slot
pub sectors_are : (format : LogFormat) → (layout_of format).slot_sectors ≡ slot_sectors_of format
sectors_are format = grind arith
