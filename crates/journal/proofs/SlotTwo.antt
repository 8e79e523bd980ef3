-- What the sectors of a slot of format 2 say, and of which record, whole or not.
use Rattle.std.proofs.Common.{◌≡◌, ℕ, ◌+◌, ◌*◌, ◌-◌, ◌^◌, ◌<◌, ◌≤◌, List, [], ◌∷◌, ◌++◌, length, get_or, take, drop, refl, sym, map, arith}
use Rattle.std.proofs.Common.{rules, ◌∙◌, All, min, zip, slice_range, flat_map, ◌/◌, ◌%◌, ap, take-add}
use Rattle.std.proofs.lemmas.List.{take_all, take_min, length-take, length-drop, append_assoc, append-nil, take_more, drop-drop, drop-take}
use Rattle.std.proofs.lemmas.List.{ext_get_or, take-map, drop-map, length-map, length-take-le, take_at, get_or-take, get_or-drop}
use Rattle.std.proofs.{lemmas.List.take-append-drop, lemmas.List.Elements.{All-take, All-drop, All-from_get_or, All-map}}
use Rattle.std.proofs.{lemmas.Slice.Zip.{length-zip, get_or-zip}, lemmas.Grind.{common_steps, flat_map-append}, Math.ListN.get_or-map}
use Rattle.std.proofs.lemmas.List.FromFn.{get_or-map-range_with_len, length-map-range_with_len, fill_by_all}
use Rattle.byteorder.specs.{Endian.little_bytes, Numbers.{little_number-reads_back, little_from-take}}
use Rattle.journal.specs.{Record.{Entry, numbers_of, block_of}, Sectors.{padded, number_in, AreItems, IsRising}}
use Rattle.journal.specs.Format2.{entry_bytes, place_bytes, entries_here, AreEntriesTwo, IsDescriptorTwo, IsCommitTwo, descriptor_bytes}
use Rattle.journal.specs.Format2.{firsts_of, chunk_of, format2, descriptors_of, entry_in, entries_at, record_in}
use Rattle.journal.specs.{Layout.{AreEntries, IsRecordOf, IsWholeIn}, Reading.{HasDescriptor, HasDescriptors, HasPlaces}, Places.Shape}
use Rattle.journal.proofs.{SectorNumbers.{commit_says, length_pieces, piece_at}, Wholeness.{record_of, parts}}
use Rattle.medium.specs.Medium.{Image}

-- the stamp in a data place, which begins with it
pub place_says : (s : ℕ) (block : List ℕ) → s < 2 ^ 64 → number_in (place_bytes s block) 0 ≡ s
unfolding number_in place_bytes
place_says s block small = little_number-reads_back 8 s [] small

module _ (numbers : List ℕ) (firsts : List (List ℕ)) (each : length firsts ≡ length numbers) where
  pub length_zipped : length (zip numbers firsts) ≡ length numbers
  length_zipped = omega (arith, length-zip numbers firsts)

  module _ (sized : All (λ (first : List ℕ). length first ≡ 8) firsts) where
    -- an entry takes 16 bytes
    pub zipped_long : All (λ (x : Entry). length (entry_bytes x) ≡ 16) (zip numbers firsts)
    unfolding entry_bytes
    zipped_long e d below =
        let inside : e < length numbers = omega (arith, length_zipped) in
        let is = get_or-zip numbers firsts e d inside (omega (arith, inside)) in
        rw is (grind (arith, common_steps, sized e d.1 (omega (arith, inside))))

    -- how many bytes stand behind the first e entries
    pub length_so_far : (before : List ℕ) (e : ℕ) → length before ≡ 32 → e ≤ length numbers
        → length (before ++ flat_map entry_bytes (take e (zip numbers firsts))) ≡ 32 + 16 * e
    length_so_far before e count inside =
        let long = length_pieces entry_bytes 16 _ (All-take (λ (x : Entry). length (entry_bytes x) ≡ 16) e _ zipped_long) in
        grind (arith, common_steps, length_zipped)

    -- one entry more
    pub entries_more : (before : List ℕ) (e : ℕ) → e < length numbers
        → ((before ++ flat_map entry_bytes (take e (zip numbers firsts))) ++ little_bytes 8 (get_or numbers e 0)) ++ get_or firsts e []
        ≡ before ++ flat_map entry_bytes (take (e + 1) (zip numbers firsts))
    unfolding entry_bytes
    entries_more before e below =
        let es : List Entry = zip numbers firsts in
        let x : Entry = (get_or numbers e 0, get_or firsts e []) in
        let first = take_all 8 (get_or firsts e []) (omega (arith, sized e [] (omega arith))) in
        let more = take_more es e (0, []) (omega (arith, length_zipped)) in
        rw (more, get_or-zip numbers firsts e (0, []) below (omega arith), flat_map-append entry_bytes (take e es) (x ∷ []))
        (simp (append_assoc, first) (rw (append-nil (get_or firsts e []))))

-- a part of what rises rises
rising_part : (numbers : List ℕ) (from count : ℕ) → IsRising numbers → IsRising (take count (drop from numbers))
rising_part numbers from count rising i j less below = grind (arith, common_steps, rising (from + i) (from + j))

-- the numbers of a descriptor are 30, or all that are left
pub items_here : (items numbers : List ℕ) (from here : ℕ) → here ≡ min 30 (length numbers - from)
    → items ≡ take (from + here - from) (drop from numbers) → items ≡ take 30 (drop from numbers)
items_here items numbers from here is are =
    let few : from + here - from ≡ min 30 (length (drop from numbers)) = grind (arith, common_steps) in
    rw (are, few) (take_min 30 (drop from numbers))

-- first bytes that were cut from bytes are 8 each
pub sized_from : {firsts : List (List ℕ)} {count : ℕ} (bytes : List ℕ) (at : ℕ → ℕ) → ((i : ℕ) → i < count → at i + 8 ≤ length bytes)
    → AreItems count (λ i. slice_range bytes (at i) (at i + 8)) [] firsts → All (λ (first : List ℕ). length first ≡ 8) firsts
sized_from {firsts} bytes at inside each = All-from_get_or (λ (first : List ℕ). length first ≡ 8) firsts [] (λ i below.
    grind (arith, common_steps, each.count, each.each i, inside i))

-- what a descriptor may hold, cut from the block numbers of a record
pub entries_cut : (numbers items : List ℕ) (firsts : List (List ℕ)) (j : ℕ) → length numbers ≤ 240 → 30 * j < length numbers
    → IsRising numbers → All (λ b. b < 2 ^ 31) numbers → items ≡ take 30 (drop (30 * j) numbers) → length firsts ≡ length items
    → All (λ (first : List ℕ). length first ≡ 8) firsts → AreEntriesTwo (length numbers) j items firsts
entries_cut numbers items firsts j few used rising small are each sized =
    let fits : ℕ → Type 0 = λ b. b < 2147483648 in
    let rises : IsRising items = rw are (rising_part numbers (30 * j) 30 rising) in
    let smalls : All fits items = rw are (All-take fits 30 _ (All-drop fits (30 * j) numbers small)) in
    let many : length items ≡ entries_here (length numbers) j = rw are (simp (length-take, length-drop)) in
    search rules

-- the numbers of a commit
pub commit_count : (stamp count : ℕ) (bytes : List ℕ) → IsCommitTwo stamp count bytes → number_in bytes 2 ≡ count
commit_count stamp count bytes c = (commit_says c).1 (omega arith)

-- what the bytes of a descriptor say
module _ {stamp count j : ℕ} {numbers : List ℕ} {firsts : List (List ℕ)} {bytes : List ℕ}
    (d : IsDescriptorTwo stamp count j numbers firsts bytes) where
  pub header_says : (number_in bytes 1 ≡ stamp) × (number_in bytes 2 ≡ count) × (number_in bytes 3 ≡ j)
  unfolding number_in padded
  header_says = rw d.spelled (
    little_number-reads_back 8 stamp [] (omega (arith, d.most)),
    little_number-reads_back 8 count [] (omega (arith, d.entries.few)),
    little_number-reads_back 8 j [] (omega (arith, d.entries.few, d.entries.used)),
  )

  entry_is : (e : ℕ) → e < length numbers → take 16 (drop (32 + 16 * e) bytes) ≡ entry_bytes (get_or numbers e 0, get_or firsts e [])
  unfolding padded
  entry_is e below =
      rw (← (drop-drop (16 * e) 32 bytes), d.spelled, ← (get_or-zip numbers firsts e (0, []) below (omega (arith, d.entries.each))))
      (piece_at entry_bytes 16 (zip numbers firsts) e (0, []) _ (omega (arith, length_zipped numbers firsts d.entries.each))
      (zipped_long numbers firsts d.entries.each d.entries.sized))

  pub number_is : (e : ℕ) → e < length numbers → number_in bytes (4 + 2 * e) ≡ get_or numbers e 0
  unfolding number_in entry_bytes
  number_is e below =
      let at : 8 * (4 + 2 * e) ≡ 32 + 16 * e = omega arith in
      rw (at, ← (little_from-take 0 8 16 (drop (32 + 16 * e) bytes) (omega arith)), entry_is e below)
      (little_number-reads_back 8 (get_or numbers e 0) [] (omega (arith, d.entries.small e 0 below)))

  pub first_is : (e : ℕ) → e < length numbers → slice_range bytes (40 + 16 * e) (40 + 16 * e + 8) ≡ get_or firsts e []
  unfolding entry_bytes
  first_is e below =
      let eight : 40 + 16 * e + 8 - (40 + 16 * e) ≡ 8 = omega arith in
      let at : 40 + 16 * e ≡ 32 + 16 * e + 8 = omega arith in
      rw (eight, at, ← (drop-drop 8 (32 + 16 * e) bytes), ← (drop-take 8 8 (drop (32 + 16 * e) bytes)), entry_is e below)
      (take_all 8 (get_or firsts e []) (omega (arith, d.entries.sized e [] (omega (arith, d.entries.each)))))

  -- numbers that were read from the entries are those of the descriptor
  pub numbers_are : {here : ℕ} {list : List ℕ} → here ≡ entries_here count j → AreItems here (λ i. number_in bytes (4 + 2 * i)) 0 list
      → list ≡ numbers
  numbers_are {list = list} is read = ext_get_or 0 list numbers (omega (arith, is, read.count, d.entries.many))
      (λ i below. grind (arith, read.count, read.each i, number_is i, d.entries.many))

  -- and so are first bytes
  pub firsts_are : {here : ℕ} {list : List (List ℕ)} → here ≡ entries_here count j
      → AreItems here (λ i. slice_range bytes (40 + 16 * i) (40 + 16 * i + 8)) [] list → list ≡ firsts
  firsts_are {list = list} is read = ext_get_or [] list firsts (omega (arith, is, read.count, d.entries.many, d.entries.each))
      (λ i below. grind (arith, read.count, read.each i, first_is i, d.entries.many))

-- a sector is a descriptor of one value
pub IsDescriptorTwo-one : (bytes : List ℕ) (a b m n i j : ℕ) (ns ms : List ℕ) (fs gs : List (List ℕ)) → IsDescriptorTwo a m i ns fs bytes
    → IsDescriptorTwo b n j ms gs bytes → (a ≡ b) × (m ≡ n) × (i ≡ j) × (ns ≡ ms) × (fs ≡ gs)
IsDescriptorTwo-one bytes a b m n i j ns ms fs gs d e =
    let x = header_says d in
    let y = header_says e in
    let here : length ns ≡ entries_here n j = cc (d.entries.many, x.1, y.1, x.2, y.2) in
    let numbers = numbers_are e here (record { count = refl; each = λ x below. sym (number_is d x below) }) in
    let firsts = firsts_are e here (record { count = d.entries.each; each = λ x below. sym (first_is d x below) }) in
    grind (arith, x, y)

-- the numbers of these entries
pub numbers_of_chunk : (es : List Entry) (j : ℕ) → numbers_of (chunk_of es j) ≡ take 30 (drop (30 * j) (numbers_of es))
numbers_of_chunk es j = rw (drop-map (λ (e : Entry). e.0) (30 * j) es, take-map (λ (e : Entry). e.0) 30 (drop (30 * j) es))

-- one of some entries that follow each other
pub part_at : {X : Type 0} (es : List Entry) (many from i : ℕ) → i < many → (part : Entry → X)
    → get_or (map part (take many (drop from es))) i (part (0, [])) ≡ part (get_or es (from + i) (0, []))
part_at es many from i few part = rw (get_or-map part (take many (drop from es)) i (0, [])) (grind (arith, common_steps))

-- in a record in the limits it is a descriptor
pub descriptor_two : {blocks stamp : ℕ} {es : List Entry} (j : ℕ) → IsRecordOf format2 blocks stamp es → 30 * j < length es
    → IsDescriptorTwo stamp (length es) j (numbers_of (chunk_of es j)) (firsts_of (chunk_of es j)) (descriptor_bytes stamp es j)
descriptor_two {stamp = stamp} {es = es} j r used =
    let first : Entry → List ℕ = λ e. take 8 e.1 in
    let full : Entry → Type 0 = λ e. length e.1 ≡ 512 in
    let chunk : List Entry = chunk_of es j in
    let long = length-map es (λ (e : Entry). e.0) in
    let sized = All-take full 30 (drop (30 * j) es) (All-drop full (30 * j) es r.fit.sized) in
    let entries = entries_cut (numbers_of es) (numbers_of chunk) (firsts_of chunk) j (omega (arith, long, r.fit.few))
    (omega (arith, long)) r.fit.rising r.fit.small (numbers_of_chunk es j) (simp length-map)
    (All-map (λ (l : List ℕ). length l ≡ 8) first chunk (λ i d below. length-take-le 8 _ (omega (arith, sized i d below)))) in
    record { spelled = refl; least = r.least; most = r.below; entries = rw long at entries }

-- descriptors that name count blocks are there
pub each_there : (image : Image) (at stamp count : ℕ) (numbers : List ℕ) → length numbers ≡ count → HasDescriptors image at stamp numbers
    → (j : ℕ) → j < descriptors_of count → HasDescriptor image at stamp count j
each_there image at stamp count numbers long has j below = grind (arith, has j)

-- the entries of one descriptor more
pub take_chunk : {X : Type 0} (xs : List X) (j : ℕ) → take (30 * (j + 1)) xs ≡ take (30 * j) xs ++ take 30 (drop (30 * j) xs)
take_chunk xs j = let next : 30 * (j + 1) ≡ 30 * j + 30 = omega arith in rw next (take-add (30 * j) 30 xs)

-- an item stands in its chunk
in_chunk : (xs : List ℕ) (i : ℕ) → get_or (take 30 (drop (30 * (i / 30)) xs)) (i % 30) 0 ≡ get_or xs i 0
in_chunk xs i =
    let split : 30 * (i / 30) + i % 30 ≡ i = omega arith in
    cc (get_or-take 30 (drop (30 * (i / 30)) xs) (i % 30) 0 (omega arith), get_or-drop (30 * (i / 30)) xs (i % 30) 0, split)

module _ (image : Image) (at n : ℕ) where
  abbrev read : List Entry
  read = entries_at image at n

  pub read_long : length (entries_at image at n) ≡ n
  read_long = length-map-range_with_len (entry_in image at) 0 n

  pub numbers_long : length (numbers_of (entries_at image at n)) ≡ n
  numbers_long = length-map read (λ (e : Entry). e.0) ∙ read_long

  pub read_entry : (i : ℕ) → i < n → get_or (entries_at image at n) i (0, []) ≡ entry_in image at i
  read_entry i below = get_or-map-range_with_len (entry_in image at) 0 n i i (0, []) below (omega arith)

  -- entry e of descriptor j
  entry_of : (j e : ℕ) → e < 30 → 30 * j + e < n → get_or (entries_at image at n) (30 * j + e) (0, [])
      ≡ (
        number_in (image (at + j)) (4 + 2 * e),
        slice_range (image (at + j)) (40 + 16 * e) (40 + 16 * e + 8)
            ++ drop 8 (image (at + (8 + (30 * j + e)))),
      )
  entry_of j e few inside =
      let quotient : (30 * j + e) / 30 ≡ j = omega arith in
      let remainder : (30 * j + e) % 30 ≡ e = omega arith in
      rw (read_entry (30 * j + e) inside, quotient, remainder)

  -- what a descriptor says is what was read of it
  module _ {stamp j : ℕ} {numbers : List ℕ} {firsts : List (List ℕ)} (d : IsDescriptorTwo stamp n j numbers firsts (image (at + j))) where
    here : length (chunk_of read j) ≡ entries_here n j
    here = omega (arith, length-take 30 (drop (30 * j) read), length-drop (30 * j) read, read_long)

    pub chunk_numbers : numbers_of (chunk_of (entries_at image at n) j) ≡ numbers
    chunk_numbers =
        numbers_are d here (record {
          count = length-map (chunk_of read j) (λ (e : Entry). e.0);
          each = λ i below. part_at read 30 (30 * j) i (omega (arith, here)) (λ e. e.0)
              ∙ ap (λ (e : Entry). e.0) (entry_of j i (omega (arith, here)) (omega (arith, here)));
        })

    pub chunk_firsts : firsts_of (chunk_of (entries_at image at n) j) ≡ firsts
    chunk_firsts =
        firsts_are d here (record {
          count = length-map (chunk_of read j) (λ (e : Entry). take 8 e.1);
          each = λ i below.
              let inside : i < length numbers = omega (arith, here, d.entries.many) in
              let long = d.entries.sized i [] (omega (arith, inside, d.entries.each)) in
              rw (
                part_at read 30 (30 * j) i (omega (arith, here)) (λ e. take 8 e.1),
                entry_of j i (omega (arith, here)) (omega (arith, here)),
                first_is d i inside,
              ) (take_at _ (drop 8 (image (at + (8 + (30 * j + i))))) 8 long);
        })

  module _ (stamp : ℕ) where
    -- so they name these blocks
    pub named : ((j : ℕ) → j < descriptors_of n → HasDescriptor image at stamp n j)
        → HasDescriptors image at stamp (numbers_of (entries_at image at n))
    named there j below =
        let d = there j (omega (arith, numbers_long)) in
        (d.1, simp (numbers_long, ← (numbers_of_chunk read j), chunk_numbers d.2) d.2)

    -- and no others
    pub named_alone : (numbers : List ℕ) → length numbers ≡ n → HasDescriptors image at stamp numbers
        → numbers ≡ numbers_of (entries_at image at n)
    named_alone numbers long has =
        ext_get_or 0 numbers _ (long ∙ sym numbers_long) (λ i below.
        let same = chunk_numbers (simp long at (has (i / 30) (omega arith)).1) in
        cc (in_chunk numbers i, in_chunk (numbers_of read) i, numbers_of_chunk read (i / 30), same))

-- what a whole record's sectors are decoded to
module _ (shape : Shape) (image : Image) (s : ℕ) (es : List Entry) (w : IsWholeIn format2 shape image s es) where
  pub commit_whole : IsCommitTwo s (length es) (image (2 + 249 * (s % shape.slots) + 248))
  commit_whole = grind (arith, parts, w.there ((length es + 29) / 30 + length es))

  pub descriptor_whole : (j : ℕ) → j < (length es + 29) / 30
      → IsDescriptorTwo s (length es) j (numbers_of (chunk_of es j)) (firsts_of (chunk_of es j)) (image (2 + 249 * (s % shape.slots) + j))
  descriptor_whole j below =
      let there : image (2 + 249 * (s % shape.slots) + j) ≡ descriptor_bytes s es j = grind (arith, parts, w.there j) in
      rw there (descriptor_two j (record_of w) (omega arith))

  pub place_there : (i : ℕ) → i < length es → image (2 + 249 * (s % shape.slots) + (8 + i)) ≡ place_bytes s (block_of es i)
  place_there i below = grind (arith, parts, w.there ((length es + 29) / 30 + i))

  pub placed : HasPlaces image (2 + 249 * (s % shape.slots)) s (length es)
  unfolding place_bytes
  placed i below = grind (arith, place_there i below)

  -- it is the one that its slot spells
  pub record_read : es ≡ record_in image (2 + 249 * (s % shape.slots))
  unfolding place_bytes
  record_read =
      let at : ℕ = 2 + 249 * (s % shape.slots) in
      let count = commit_count s (length es) (image (at + 248)) commit_whole in
      fill_by_all (entry_in image at) es _ (0, []) (sym count) (λ i below.
      let inside : i < length es = omega (arith, count) in
      let split : 30 * (i / 30) + i % 30 ≡ i = omega arith in
      let d = descriptor_whole (i / 30) (omega (arith, inside)) in
      let few : i % 30 < length (numbers_of (chunk_of es (i / 30))) = omega (arith, d.entries.many) in
      rw (
        number_is d (i % 30) few,
        first_is d (i % 30) few,
        part_at es 30 (30 * (i / 30)) (i % 30) (omega arith) (λ e. e.0),
        part_at es 30 (30 * (i / 30)) (i % 30) (omega arith) (λ e. take 8 e.1),
        split,
        place_there i inside,
        take-append-drop 8 (block_of es i),
      ))

  -- a commit there counts its blocks, and their descriptors are there
  module _ (n : ℕ) (commit : IsCommitTwo s n (image (2 + 249 * (s % shape.slots) + 248))) where
    pub described_whole : (j : ℕ) → j < descriptors_of n → HasDescriptor image (2 + 249 * (s % shape.slots)) s n j
    described_whole j below =
        let counted : length es ≡ n = cc (commit_count s (length es) _ commit_whole, commit_count s n _ commit) in
        (_, _, rw counted at (descriptor_whole j (omega (arith, below))))

-- a slot that says so has a whole record
module _ (shape : Shape) (image : Image) (s n : ℕ) (committed : IsCommitTwo s n (image (2 + 249 * (s % shape.slots) + 248)))
    (described : (j : ℕ) → j < descriptors_of n → HasDescriptor image (2 + 249 * (s % shape.slots)) s n j)
    (placed : HasPlaces image (2 + 249 * (s % shape.slots)) s n)
    (sized : (x : ℕ) → x < 249 → length (image (2 + 249 * (s % shape.slots) + x)) ≡ 512) where
  abbrev found : List Entry
  found = entries_at image (2 + 249 * (s % shape.slots)) n

  long : length found ≡ n
  long = read_long image _ n

  -- a number that is found is small
  small : (i : ℕ) → i < length (numbers_of found) → get_or (numbers_of found) i 0 < 2147483648
  small i below =
      let inside : i < n = omega (arith, long, length-map found (λ (e : Entry). e.0)) in
      let d = (described (i / 30) (omega arith)).2 in
      let few : i % 30 < length (described (i / 30) (omega arith)).0 = omega (arith, d.entries.many) in
      rw (get_or-map (λ (e : Entry). e.0) found i (0, []), read_entry image _ n i inside, number_is d (i % 30) few)
      (d.entries.small (i % 30) 0 few)

  -- a block that is found has all its bytes, and the rest of its data place
  block_read : (i : ℕ) → i < n → (length (get_or found i (0, [])).1 ≡ 512)
      × (drop 8 (get_or found i (0, [])).1 ≡ drop 8 (image (2 + 249 * (s % shape.slots) + (8 + i))))
  block_read i below =
      let described_at = sized (i / 30) (omega (arith, committed.few)) in
      let placed_at = sized (8 + i) (omega (arith, committed.few)) in
      rw (read_entry image _ n i below) (grind (arith, common_steps), grind (arith, common_steps))

  descriptor_read : (j : ℕ) → j < descriptors_of n → image (2 + 249 * (s % shape.slots) + j) ≡ descriptor_bytes s found j
  descriptor_read j below =
      let it = (described j below).2 in rw (long, chunk_numbers image _ n it, chunk_firsts image _ n it) it.spelled

  place_read : (i : ℕ) → i < n → image (2 + 249 * (s % shape.slots) + (8 + i)) ≡ place_bytes s (block_of found i)
  unfolding place_bytes
  place_read i below = rw (block_read i below).1 (placed i below)

  pub whole_two : IsRising (numbers_of (entries_at image (2 + 249 * (s % shape.slots)) n))
      → All (λ b. b < shape.blocks) (numbers_of (entries_at image (2 + 249 * (s % shape.slots)) n))
      → IsWholeIn format2 shape image s (entries_at image (2 + 249 * (s % shape.slots)) n)
  whole_two rising inside =
      let smalls = All-from_get_or (λ (b : ℕ). b < 2147483648) (numbers_of found) 0 small in
      let sizes = All-from_get_or (λ (e : Entry). length e.1 ≡ 512) found (0, []) (λ i below. (block_read i (omega (arith, long))).0) in
      let fit : AreEntries 240 shape.blocks found =
      grind (arith, long, committed.some, committed.few, rising, inside, smalls, sizes) in
      record {
        fit = fit;
        least = committed.least;
        below = committed.most;
        there = λ p within. grind (arith, parts, descriptor_read p, place_read (p - (n + 29) / 30), long, committed.spelled);
      }
