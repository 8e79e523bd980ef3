-- The numbers of a sector, written and read back, and the one value that they spell.
use Rattle.std.proofs.Common.{◌≡◌, ℕ, zero, suc, ◌+◌, ◌*◌, ◌<◌, List, [], ◌∷◌, ◌++◌, length, get_or, take, drop, arith, ◌-◌, ◌^◌, ◌≤◌, refl}
use Rattle.std.proofs.{Common.{sym, ◌∙◌, ap, All, replicate, flat_map, if◌then◌else◌, ◌==◌, ext_get_or}, lemmas.Grind.common_steps}
use Rattle.std.proofs.lemmas.List.{drop_at, drop-drop, append_assoc, drop-replicate}
use borrow.Rule.Slice.{PartMut.put_mid}
use Rattle.byteorder.specs.{Endian.{little_bytes, little_number}, Numbers.{little_number-reads_back, little_from-take}}
use Rattle.journal.specs.Sectors.{padded, spelling, number_in, descriptor_mark, AreItems, version_of, IsSuper, IsHead, IsDescriptor}
use Rattle.journal.specs.{Sectors.{IsCommitOf, HasMagic, HasVersion, HasZeroRest}, Places.Shape, declared.log_format.LogFormat.LogFormat}
use Rattle.journal.specs.declared.log_format.LogFormat.TheVariants.{One, Two}

module _ {X : Type 0} (f : X → List ℕ) (k : ℕ) where
  -- how many they are
  pub length_pieces : (xs : List X) → All (λ x. length (f x) ≡ k) xs → length (flat_map f xs) ≡ k * length xs
  length_pieces [] long = omega arith
  length_pieces (x ∷ xs) long =
      grind (arith, common_steps, length_pieces xs (λ i d below. long (suc i) d (omega arith)), long 0 x (omega arith))

  -- the i-th one
  pub piece_at : (xs : List X) (i : ℕ) (d : X) (rest : List ℕ) → i < length xs → All (λ x. length (f x) ≡ k) xs
      → take k (drop (k * i) (flat_map f xs ++ rest)) ≡ f (get_or xs i d)
  piece_at [] i d rest below long = absurd (omega arith)
  piece_at (x ∷ xs) zero d rest below long = grind (arith, common_steps, long 0 x (omega arith))
  piece_at (x ∷ xs) (suc i) d rest below long =
      let step : k * suc i ≡ k + k * i = omega arith in
      rw (step, append_assoc, ← (drop-drop (k * i) k (f x ++ (flat_map f xs ++ rest))), drop_at (f x) _ k (long 0 x (omega arith)))
      (piece_at xs i d rest (omega arith) (λ j e inside. long (suc j) e (omega arith)))

-- the i-th number, read back
pub spelling_get : (i : ℕ) (numbers sector : List ℕ) → i < length numbers → get_or numbers i 0 < 2 ^ 64
    → sector ≡ spelling numbers → number_in sector i ≡ get_or numbers i 0
unfolding spelling padded number_in
spelling_get i numbers sector below small is =
    let rest : List ℕ = replicate (512 - length (flat_map (little_bytes 8) numbers)) 0 in
    rw is (sym (little_from-take 0 8 8 (drop (8 * i) (flat_map (little_bytes 8) numbers ++ rest)) (omega arith))
    ∙ ap (little_number 8) (piece_at (little_bytes 8) 8 numbers i 0 rest below (λ j d inside. refl))
    ∙ little_number-reads_back 8 (get_or numbers i 0) [] small)

-- bytes written behind those that are there
pub padded_put : (i k : ℕ) (before sector part new : List ℕ) → length before ≡ i → k ≡ length part
    → i + length part ≤ 512 → sector ≡ padded before → new ≡ part → put_mid i k sector new ≡ padded (before ++ part)
unfolding padded
padded_put i k before sector part new count same inside is wrote =
    grind (arith, common_steps, drop-replicate {X = ℕ} k (512 - length before) 0)

module _ {stamp : ℕ} {numbers bytes : List ℕ} (d : IsDescriptor stamp numbers bytes) where
  -- the stamp of a descriptor, and how many block numbers it has
  pub descriptor_says : (number_in bytes 1 ≡ stamp) × (number_in bytes 2 ≡ length numbers)
  descriptor_says = (
    spelling_get 1 _ bytes (omega arith) (omega (arith, d.most)) d.spelled,
    spelling_get 2 _ bytes (omega arith) (omega (arith, d.block_numbers.few)) d.spelled,
  )

  -- each of its block numbers
  pub descriptor_number : (i : ℕ) → i < length numbers → number_in bytes (3 + i) ≡ get_or numbers i 0
  descriptor_number i below =
      let it : get_or (descriptor_mark ∷ stamp ∷ length numbers ∷ numbers) (3 + i) 0 ≡ get_or numbers i 0 = grind arith in
      spelling_get (3 + i) _ bytes (omega arith) (omega (arith, it, d.block_numbers.fit i 0 below)) d.spelled ∙ it

  -- a list that was read as its block numbers is its block numbers
  pub descriptor_numbers : {count : ℕ} {list : List ℕ} → count ≡ number_in bytes 2
      → AreItems count (λ i. number_in bytes (3 + i)) 0 list → list ≡ numbers
  descriptor_numbers {list = list} is read = ext_get_or 0 list numbers (omega (arith, is, read.count, descriptor_says.1))
      (λ i below. grind (arith, read.count, read.each i, descriptor_number i, is, descriptor_says.1))

-- the format of a super with this version
abbrev pub format_in : ℕ → LogFormat
format_in version = if version == 1 then One else Two

module _ {shape : Shape} {bytes : List ℕ} (s : IsSuper shape bytes) where
  -- the version of a super, its blocks and slots, and where home begins
  super_says : (number_in bytes 1 ≡ version_of shape.format) × (number_in bytes 2 ≡ shape.blocks)
      × (number_in bytes 3 ≡ shape.slots) × (number_in bytes 5 ≡ shape.home)
  super_says = (
    spelling_get 1 _ bytes (omega arith) (grind arith) s.spelled,
    spelling_get 2 _ bytes (omega arith) (omega (arith, s.most_blocks)) s.spelled,
    spelling_get 3 _ bytes (omega arith) (omega (arith, s.most_slots)) s.spelled,
    spelling_get 5 _ bytes (omega arith) (grind (arith, s.most_slots, s.home_is)) s.spelled,
  )

  no_rest : HasZeroRest bytes
  unfolding spelling padded
  no_rest = ap (λ (l : List ℕ). drop 48 l) s.spelled

  -- a super has no fault
  pub super_begins : HasMagic bytes × HasVersion bytes × HasZeroRest bytes
  super_begins = (spelling_get 0 _ bytes (omega arith) (omega arith) s.spelled, grind (arith, super_says), no_rest)

-- the only shape whose super a sector may be
abbrev pub shape_in : List ℕ → Shape
shape_in bytes = record {
  format = format_in (number_in bytes 1);
  blocks = number_in bytes 2;
  slots = number_in bytes 3;
  home = number_in bytes 5;
}

pub shape_is : {shape : Shape} {bytes : List ℕ} → IsSuper shape bytes → shape_in bytes ≡ shape
shape_is {shape} {bytes} s = let format : format_in (number_in bytes 1) ≡ shape.format = grind (arith, super_says s) in
    rw (format, (super_says s).1, (super_says s).2, (super_says s).3)

-- a super spells one shape
pub IsSuper-one : (a b : Shape) (bytes : List ℕ) → IsSuper a bytes → IsSuper b bytes → a ≡ b
IsSuper-one a b bytes s t = sym (shape_is s) ∙ shape_is t

-- the stamp of a head
pub head_stamp : {stamp : ℕ} {bytes : List ℕ} → IsHead stamp bytes → number_in bytes 1 ≡ stamp
head_stamp h = spelling_get 1 _ _ (omega arith) (omega (arith, h.most)) h.spelled

-- a sector is a head of one stamp
pub IsHead-one : (a b : ℕ) (bytes : List ℕ) → IsHead a bytes → IsHead b bytes → a ≡ b
IsHead-one a b bytes h k = sym (head_stamp h) ∙ head_stamp k

-- the stamp of a commit, and its count
pub commit_says : {mark limit stamp count : ℕ} {bytes : List ℕ} → IsCommitOf mark limit stamp count bytes
    → (number_in bytes 1 ≡ stamp) × (limit ≤ 240 → number_in bytes 2 ≡ count)
commit_says c = (
  spelling_get 1 _ _ (omega arith) (omega (arith, c.most)) c.spelled,
  λ low. spelling_get 2 _ _ (omega arith) (omega (arith, c.few, low)) c.spelled,
)
