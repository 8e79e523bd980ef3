-- An image stands for one array and one next stamp, or has one fault.
use Rattle.std.proofs.Common.{All, List, [], arith, ext_get_or, get_or, inl, inr, length, map, refl, rules, subst, sym, ℕ, ◌+◌, ◌-◌, ◌<◌}
use Rattle.std.proofs.{Common.{◌^◌, ◌∙◌, ◌∷◌, ◌≡◌, ◌≤◌, ◌⊎◌}, lemmas.{Bool.{cases_eq, cases_lt}, List.Elements.All-from_get_or}}
use Rattle.std.{proofs.lemmas.List.{FromFn.{get_or-map-range_with_len, length-map-range_with_len}, ext_get_or}, specs.List.range_with_len}
use Rattle.medium.specs.Medium.{Image}
use Rattle.logical_blocks.specs.Blocks.{Array}
use Rattle.journal.specs.{Places.{Shape, sectors_of}, Sectors.{IsSuper, IsHead, spelling, number_in, super_mark, head_mark, version_of}}
use Rattle.journal.specs.{Sectors.{IsRising, HasMagic, HasVersion, HasZeroRest}, Record.{Entry, with_records, home_of, numbers_of}}
use Rattle.journal.specs.{Layout.{slot_at, IsWholeIn, Layout, AreEntries, HasWholeIn, part_at, Laws}, Formats.{layout_of, HasWhole}}
use Rattle.journal.specs.Standing.{IsCount, StandsFor, HasShape, Stands, ImageFault, BadSuper, BadVersion, BadSize, BadHead, HasFault}
use Rattle.journal.proofs.{SectorNumbers.{IsSuper-one, IsHead-one, head_stamp, shape_in, shape_is, super_begins}, Formats.laws_of}
use Rattle.journal.proofs.Wholeness.{IsWhole-one, all_or_first}

-- with one head there are no fewer records of what an image stands for
not_fewer : {size other : ℕ} {shape : Shape} {image : Image} {a b : Array} {t u : ℕ} (h : StandsFor size shape image a t)
    (k : StandsFor other shape image b u) → h.head ≡ k.head → ¬ (length h.records < length k.records)
not_fewer h k heads less =
    h.ends (omega (arith, k.few)) (get_or k.records (length h.records) [], rw heads (k.keeps.whole (length h.records) less))

module _ (size other : ℕ) (shape : Shape) (image : Image) (a b : Array) (t u : ℕ) (h : StandsFor size shape image a t)
    (k : StandsFor other shape image b u) where
  -- the head is the same
  pub heads : h.head ≡ k.head
  heads = IsHead-one h.head k.head (image 1) h.keeps.head_is k.keeps.head_is

  -- there are as many records
  pub counts : length h.records ≡ length k.records
  counts = grind (arith, not_fewer h k heads, not_fewer k h (sym heads))

-- an image stands for at most one array and next stamp, of one shape
pub StandsFor-one : (size other : ℕ) (s r : Shape) (image : Image) (a b : Array) (t u : ℕ) → StandsFor size s image a t
    → StandsFor other r image b u → (s ≡ r) × (t ≡ u) × ((x : ℕ) → x < s.blocks → a x ≡ b x)
StandsFor-one size other s r image a b t u h k =
    let one : s ≡ r = IsSuper-one s r (image 0) h.keeps.super k.keeps.super in
    let there : StandsFor other s image b u = subst (λ (x : Shape). StandsFor other x image b u) (sym one) k in
    let many = heads size other s image a b t u h there in
    let long = counts size other s image a b t u h there in
    let same = ext_get_or [] h.records there.records long (λ j below. IsWhole-one (layout_of s.format) (laws_of s.format) s image
    (h.head + j) _ _ (h.keeps.whole j below) (rw many (there.keeps.whole j (omega (arith, long))))) in (
      one,
      omega (arith, h.next_is, there.next_is, many, long),
      λ x below. sym (h.keeps.blocks x below) ∙ rw same (there.keeps.blocks x below),
    )

-- an image with a super, a head and count whole records stands for an array
pub record Stood (size : ℕ) (shape : Shape) (image : Image) (head count : ℕ) : Type 0 where
  pub array : Array
  pub stands : StandsFor size shape image array (head + count + 1)
  pub head_is : stands.head ≡ head
  pub count_is : length stands.records ≡ count

-- what it stands for
pub count_stands : (size : ℕ) (shape : Shape) (image : Image) (head count : ℕ) → sectors_of shape ≤ size → IsSuper shape (image 0)
    → IsHead head (image 1) → IsCount shape image head count → Stood size shape image head count
count_stands size shape image head count fits s h c =
    let L = layout_of shape.format in
    let read : ℕ → List Entry = λ j. L.read image (slot_at L shape (head + j)) in
    let records : List (List Entry) = map read (range_with_len 0 count) in
    let long : length records ≡ count = length-map-range_with_len read 0 count in
    let whole : (j : ℕ) → j < length records → IsWholeIn L shape image (head + j) (get_or records j []) = λ j below.
    let w = c.whole j (omega (arith, below, long)) in
    rw (
      get_or-map-range_with_len read 0 count j j [] (omega (arith, below, long)) (omega arith),
      ← ((laws_of shape.format).read shape image (head + j) w.0 w.1),
    ) w.1 in
    let stands : StandsFor size shape image (with_records records (home_of shape image)) (head + count + 1) =
    let few : length records ≤ shape.slots = omega (arith, long, c.few) in
    let ends = rw (← long) at c.ends in
    let next_is : head + count + 1 ≡ head + length records + 1 = omega (arith, long) in
    search rules in
    record { array = with_records records (home_of shape image); stands = stands; head_is = refl; count_is = long }

-- an image that stands for something has the shape of its super
pub StandsFor-shape : (size : ℕ) (shape : Shape) (image : Image) (array : Array) (next : ℕ) → StandsFor size shape image array next
    → HasShape size shape image
StandsFor-shape size shape image array next s = record { super = s.keeps.super; fits = s.fits }

-- so or not
abbrev Decided : Type 0 → Type 0
Decided P = P ⊎ (¬ P)

-- all of n or not
each_or_not : (P : ℕ → Type 0) (n : ℕ) → ((k : ℕ) → Decided (P k)) → Decided ((k : ℕ) → k < n → P k)
each_or_not P n p = let first = all_or_first P (λ k. ¬ P k) n (λ k below. p k) in search (rules, arith)

-- two lists of numbers are the same or not
pub same_or_not : (xs ys : List ℕ) → Decided (xs ≡ ys)
same_or_not xs ys =
    let each = each_or_not (λ k. get_or xs k 0 ≡ get_or ys k 0) (length xs) (λ k. cases_eq _ _) in
    search (rules, arith, cases_eq (length xs) (length ys), ext_get_or 0 xs ys)

-- all of a list or not
all_or_not : {A : Type 0} (P : A → Type 0) → ((x : A) → Decided (P x)) → (xs : List A) (d : A) → Decided (All P xs)
all_or_not P each xs d =
    let all = each_or_not (λ k. P (get_or xs k d)) (length xs) (λ k. each (get_or xs k d)) in
    search (rules, All-from_get_or P xs d)

-- a sector is a head or not
pub head_or_not : (bytes : List ℕ) → Decided ((stamp : ℕ) × IsHead stamp bytes)
head_or_not bytes =
    let s = number_in bytes 1 in
    let spelled = same_or_not bytes (spelling (head_mark ∷ s ∷ [])) in
    let here : Decided (IsHead s bytes) = search (rules, arith, cases_lt) in
    let one = λ (h : (stamp : ℕ) × IsHead stamp bytes). rw (← (head_stamp h.1)) at h.1 in
    search (rules, one)

-- a sector is a super or not
pub super_or_not : (bytes : List ℕ) → Decided ((shape : Shape) × IsSuper shape bytes)
super_or_not bytes =
    let s : Shape = shape_in bytes in
    let spelled = same_or_not bytes (spelling (super_mark ∷ version_of s.format ∷ s.blocks ∷ s.slots ∷ 2 ∷ s.home ∷ [])) in
    let here : Decided (IsSuper s bytes) = search (rules, arith, cases_lt) in
    let one = λ (w : (shape : Shape) × IsSuper shape bytes). rw (← (shape_is w.1)) at w.1 in
    search (rules, one)

-- a record is whole or not
whole_or_not : (L : Layout) (laws : Laws L) (shape : Shape) (image : Image) (stamp : ℕ) → Decided (HasWholeIn L shape image stamp)
whole_or_not L laws shape image stamp =
    let es : List Entry = L.read image (slot_at L shape stamp) in
    let number : ℕ → ℕ = λ i. get_or (numbers_of es) i 0 in
    let all = each_or_not (λ j. (i : ℕ) → i < j → number i < number j) (length (numbers_of es))
    (λ j. each_or_not (λ i. number i < number j) j (λ i. grind (arith, cases_lt (number i) (number j)))) in
    let rising : Decided (IsRising (numbers_of es)) = search (rules, arith) in
    let inside = all_or_not (λ b. b < shape.blocks) (λ b. grind (arith, cases_lt b shape.blocks)) (numbers_of es) 0 in
    let small = all_or_not (λ b. b < 2 ^ 31) (λ b. grind (arith, cases_lt b (2 ^ 31))) (numbers_of es) 0 in
    let sized = all_or_not (λ e. length e.1 ≡ 512) (λ e. cases_eq (length e.1) 512) es (0, []) in
    let fit : Decided (AreEntries L.most shape.blocks es) =
    search (rules, arith, cases_lt 0 (length es), cases_lt L.most (length es)) in
    let there = each_or_not (λ p. image (part_at L shape stamp (length es) p) ≡ L.part stamp es p) (L.parts (length es))
    (λ p. same_or_not (image (part_at L shape stamp (length es) p)) (L.part stamp es p)) in
    let here : Decided (IsWholeIn L shape image stamp es) = search (rules, arith, cases_lt 0 stamp, cases_lt stamp (2 ^ 63 - 1)) in
    let one = λ (w : HasWholeIn L shape image stamp). rw (laws.read shape image stamp w.0 w.1) at w.1 in
    search (rules, one)

-- each image has a count of whole records from each stamp on
pub count_of : (shape : Shape) (image : Image) (head : ℕ) → (count : ℕ) × IsCount shape image head count
count_of shape image head =
    let whole : ℕ → Type 0 = λ j. HasWhole shape image (head + j) in
    elim (all_or_first whole (λ j. ¬ whole j) shape.slots
    (λ j below. whole_or_not (layout_of shape.format) (laws_of shape.format) shape image (head + j))) [
      | inl all ↦ (shape.slots, record { few = omega arith; whole = all; ends = λ less. absurd (omega (arith, less)) })
      | inr first ↦ (first.0, record { few = omega (arith, first.1); whole = first.2; ends = λ less. first.3 })
    ]

-- an image has a super or a fault of it, by what is known of its first sector
first_fault : (size : ℕ) (image : Image) → 0 < size → HasMagic (image 0) ⊎ (¬ HasMagic (image 0))
    → HasVersion (image 0) ⊎ (¬ HasVersion (image 0)) → HasZeroRest (image 0) ⊎ (¬ HasZeroRest (image 0))
    → ((shape : Shape) × IsSuper shape (image 0)) ⊎ (¬ ((shape : Shape) × IsSuper shape (image 0)))
    → ((shape : Shape) × IsSuper shape (image 0)) ⊎ ((fault : ImageFault) × HasFault size image fault)
first_fault size image some (inr m) v z s = inr (BadSuper, (some, inl m))
first_fault size image some (inl m) (inr v) z s = inr (BadVersion, (some, (m, v)))
first_fault size image some (inl m) (inl v) (inr z) s = inr (BadSuper, (some, inr (m, v, z)))
first_fault size image some (inl m) (inl v) (inl z) (inr s) = inr (BadSize, inr (inl (m, v, z, λ shape is. s (shape, is))))
first_fault size image some (inl m) (inl v) (inl z) (inl s) = inl s

-- an image stands for something or has a fault
pub stands_or_fault : (size : ℕ) (image : Image) → Stands size image ⊎ ((fault : ImageFault) × HasFault size image fault)
stands_or_fault size image = elim (cases_lt 0 size) [
  | inr none ↦ inr (BadSize, inl (omega arith))
  | inl some ↦ elim (first_fault size image some (cases_eq _ _) (grind arith) (same_or_not _ _) (super_or_not _)) [
    | inr f ↦ inr f
    | inl s ↦ elim (cases_lt size (sectors_of s.0)) [
      | inl short ↦ inr (BadSize, inr (inr (s.0, s.1, short)))
      | inr fits ↦ elim (head_or_not (image 1)) [
        | inl h ↦
            let c = count_of s.0 image h.0 in
            let stood = count_stands size s.0 image h.0 c.0 fits s.1 h.1 c.1 in
            inl (s.0, stood.array, h.0 + c.0 + 1, stood.stands)
        | inr no_head ↦ inr (BadHead, (s.0, record { super = s.1; fits = fits }, λ stamp h. no_head (stamp, h)))
      ]
    ]
  ]
]

module _ (size : ℕ) (image : Image) where
  -- an image has at most one fault
  pub HasFault-one : (a b : ImageFault) → HasFault size image a → HasFault size image b → a ≡ b
  HasFault-one a b h k = grind (arith, h, k, IsSuper-one, super_begins)

  -- an image that stands for something has none
  pub HasFault-stands : (fault : ImageFault) → HasFault size image fault → ¬ Stands size image
  HasFault-stands fault h s = grind (arith, h, s, IsSuper-one, super_begins)
