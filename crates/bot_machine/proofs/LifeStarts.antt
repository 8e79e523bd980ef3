-- How a life begins, with what the medium was left with, and what comes of its start: a disk runs, power goes, or it is refused.
use Rattle.std.proofs.Common.{◌≡◌, ◌≤◌, ◌⊎◌, ℕ, Bool, true, false, [], Some, None, Option, refl, sym, ◌∙◌, ap, inl, inr, ⊎_elim, arith, ◌+◌}
use Rattle.std.proofs.{Common.{◌∷◌, subst}, lemmas.Bool.{false≢true, cases_Bool}}
use Rattle.logical_blocks.specs.{Blocks.{Write, Array}, Book.{Book, after_first, opened, with_write, with_progress}}
use Rattle.scsi.specs.Rules.{UnitState}
use Rattle.spec.specs.Lives.{Remains}
use Rattle.spec.specs.Lives.{Place, before_first, between, runs, off, Standing, Presentation, IsLeft, Opens, KeepsLimit, LifeBegins}
use Rattle.spec.specs.{Lives.{StartsAt, starts}, Disks.{prompt_disk, started}, Exchange.{Line, at_rest}, UnitConversation.on_line}
use Rattle.medium.specs.{Medium.{State, Image}, Moments.EachCut, Sim.{Sim, state_of, ComesAfter}, SimLaws.is_sound}
use Rattle.medium.proofs.{Moments.{only_image, content_has, at_exit}, KeptBlocks.none_flushed, SimCalls.keeps_power}
use Rattle.scsi_unit.specs.{Books.{StandsAs, MayFind, FoundWith}, Starting.{IsOursForSome, OpensOn, blocks_of, Stands, IsCauseFor}}
use Rattle.scsi_unit.specs.{StartFaults.StartFault, Serving.has_refused}
use Rattle.bot_machine.specs.{Device.{Device, presented}, Disk.{DiskValue, FitsDisk, over}, Opening.{IsOpened, IsNotOpened, StartLeaves}}
use Rattle.bot_machine.specs.LivesValue.{HasLimit, IsAt, LimitAt, book_at, LeavesLimit, FoundAt, medium_in, state_in, HasBegun, FitsLives}
use Rattle.bot_machine.specs.LivesValue.{LivesGoTo, LivesGoOn, MayRefuse, LivesStop}
use Rattle.bot_machine.specs.declared.lives.disk_state.DiskState.TheVariants.{Stopped, Running}
use Rattle.bot_machine.specs.{declared.lives.disk_state.DiskState.DiskState, Moving.StartsIn}
use Rattle.bot_machine.proofs.UnitLaws.{knows_images, between_calls, limit_between_calls, start_keeps_limit}
use Rattle.bot_machine.proofs.Moved.{some_refused, caused_once}
use Rattle.bot_machine.proofs.{LifeActions.{lives_at, stays, called_once, one_run, armed_then, on_or_off}, Runs.one_counted}
use Rattle.scsi_unit.specs.UnitValue.{unit_limit, state_of as unit_state}

-- ---- what a life has left

-- the book with which the next life opens over this image
record LeavesBook (size : ℕ) (remains : Remains) (image : Image) : Type 0 where
  next : Book
  is : next ≡ opened next.blocks next.opening next.stamp true
  left : IsLeft remains next
  stands : StandsAs size next.blocks image next.opening next.stamp

found_left : (size : ℕ) (remains : Remains) (book : Book) (image : Image)
    → (book ≡ remains.book) ⊎ (book ≡ with_progress remains.book remains.in_progress) → remains.book.mark ≤ book.mark
    → MayFind size book image → LeavesBook size remains image
found_left size remains book image accepts mark m = record {
  next = opened book.blocks (after_first m.count book) m.next true;
  is = refl;
  left = record {
    book = book;
    accepts = accepts;
    count = m.count;
    promises = omega (arith, mark, m.promises);
    accepted = m.accepted;
    blocks = refl;
    opening = refl;
    stamp = m.bound;
  };
  stands = m.stands;
}

leaves_book : (size : ℕ) (book : Book) (write : Option Write) (image : Image) → FoundWith size book write image
    → LeavesBook size (record { book = book; in_progress = write }) image
leaves_book size book None image m = found_left size _ book image (inl refl) (omega arith) m
leaves_book size book (Some w) image (inl m) = found_left size _ book image (inl refl) (omega arith) m
leaves_book size book (Some w) image (inr m) = found_left size _ (with_write book w) image (inr refl) (omega arith) m

-- an image that is ours in some shape is ours with some number of blocks, and the other way round
pub with_shape : (size : ℕ) (image : Image) → (blocks : ℕ) × (array : Array) × (next : ℕ) × StandsAs size blocks image array next
    → IsOursForSome size image
with_shape size image (blocks, array, next, (shape, same, is)) = (shape, array, next, is)

with_blocks : (size : ℕ) (image : Image) → IsOursForSome size image
    → (blocks : ℕ) × (array : Array) × (next : ℕ) × StandsAs size blocks image array next
with_blocks size image (shape, array, next, is) = (shape.blocks, array, next, (shape, refl, is))

-- where the contents stand for a book, and every image is ours, every image stands for it
pub first_found : (m : Sim) (book : Book) → m.unflushed ≡ [] → OpensOn (state_of m) book → book.ours ≡ true
    → EachCut (FoundAt (state_of m).size (before_first book)) (state_of m)
first_found m book none h ours image cut =
    let same = only_image (state_of m).content (state_of m).may_leave (none_flushed m none) image cut in
    knows_images.ours_for (state_of m).size book image (rw same h.stands) (with_shape (state_of m).size image (h.ours ours image cut))

-- nothing is unflushed: what the contents have every image has
pub first_limited : (m : Sim) (limit : ℕ) → m.unflushed ≡ [] → HasLimit (state_of m).size limit (state_of m).content
    → LeavesLimit limit (Stopped m)
first_limited m limit none has image cut = rw (only_image (state_of m).content (state_of m).may_leave (none_flushed m none) image cut) has

-- what a life has left is ours
pub remains_ours : (m : State) (remains : Remains) → EachCut (FoundAt m.size (between remains)) m → EachCut (IsOursForSome m.size) m
remains_ours m remains found image cut = knows_images.found_ours m.size remains.book remains.in_progress image (found image cut)

-- the image that a life has left has the limit of the disk that starts on it
next_limit : (m : Sim) (limit other : ℕ) → LeavesLimit limit (Stopped m) → HasLimit (state_of m).size other (state_of m).content
    → other ≡ limit
next_limit m limit other leaves has =
    knows_images.one_limit (state_of m).size other limit (state_of m).content has
    (content_has (HasLimit (state_of m).size limit) (state_of m) (is_sound m) leaves)

-- A book with which a life may open here: the contents stand for it, or not every image was ours, and it is opened with these.
pub record WouldOpen (m : State) (place : Place prompt_disk) (blocks : ℕ) (array : Array) (stamp : ℕ) : Type 0 where
  pub book : Book
  pub opens : Opens place book
  pub ours : book.ours ≡ (book_at place).ours
  pub stands : OpensOn m book ⊎ (book ≡ opened blocks array stamp false)

pub stands_ours : {m : State} {place : Place prompt_disk} {blocks stamp : ℕ} {array : Array} (w : WouldOpen m place blocks array stamp)
    → w.book.ours ≡ true → OpensOn m w.book
stands_ours w ours = ⊎_elim (λ on. on) (λ is. absurd (false≢true (sym (ap (λ (b : Book). b.ours) is) ∙ ours))) w.stands

pub next_opens : (m : Sim) (remains : Remains) (blocks : ℕ) (array : Array) (stamp : ℕ)
    → (remains.book.ours ≡ true → EachCut (FoundAt (state_of m).size (between remains)) (state_of m))
    → WouldOpen (state_of m) (between remains) blocks array stamp
next_opens m remains blocks array stamp found = elim (cases_Bool remains.book.ours) [
  | inl ours ↦
      let l = leaves_book (state_of m).size remains.book remains.in_progress (state_of m).content
      (content_has (FoundAt (state_of m).size (between remains)) (state_of m) (is_sound m) (found ours)) in
      let is_ours : l.next.ours ≡ true = ap (λ (b : Book). b.ours) l.is in
      record {
        book = l.next;
        opens = record { opens = l.is ∙ ap (opened l.next.blocks l.next.opening l.next.stamp) (sym ours); left = λ _. l.left };
        ours = is_ours ∙ sym ours;
        stands = inl (record {
          opens = l.is ∙ ap (opened l.next.blocks l.next.opening l.next.stamp) (sym is_ours);
          stands = knows_images.stands_for (state_of m).size l.next (state_of m).content l.stands;
          ours = λ _ image cut. with_blocks (state_of m).size image (remains_ours (state_of m) remains (found ours) image cut);
        });
      }
  | inr not ↦ record {
    book = opened blocks array stamp false;
    opens = record { opens = ap (opened blocks array stamp) (sym not); left = λ is_ours. absurd (false≢true (sym not ∙ is_ours)) };
    ours = sym not;
    stands = inr refl;
  }
]

-- a disk that has started fits it
pub fits_opened : (before after : State) (device : Device) (disk : DiskValue Sim) (h : IsOpened before after device disk) (book : Book)
    → OpensOn before book ⊎ (book ≡ opened (blocks_of disk.unit.store.cached) h.store.array h.store.next false) → FitsDisk after disk book
fits_opened before after device disk h book stands =
    ⊎_elim (h.store.serves book) (λ is. rw is (h.store.fits false (λ ours. absurd (false≢true ours)))) stands

-- ---- wherever lives stand while no disk runs and the power is on

module _ (m : Sim) (on : m.power.off ≡ false) where
  pub flushed_at : (place : Place prompt_disk) → IsAt place (Stopped m) → m.unflushed ≡ []
  flushed_at place is = grind arith

  pub starts_at : (disk : Presentation) (refused : Bool) (place : Place prompt_disk) (old new : Standing prompt_disk)
      → IsAt place (Stopped m) → LifeBegins disk refused old new → StartsAt place disk refused old new
  starts_at disk refused place old new is life = grind arith

  pub keeps_same : (place : Place prompt_disk) (limit : ℕ) → IsAt place (Stopped m) → KeepsLimit place limit limit
  keeps_same place limit is = grind arith

  pub keeps_limit : (place : Place prompt_disk) (limit other : ℕ) → IsAt place (Stopped m) → LimitAt place limit (Stopped m)
      → ((book_at place).ours ≡ true → LeavesLimit limit (Stopped m)) → HasLimit (state_of m).size other (state_of m).content
      → KeepsLimit place limit other × ((book_at place).ours ≡ true → other ≡ limit)
  keeps_limit (before_first book) limit other is at leaves has =
      let one = knows_images.one_limit (state_of m).size other limit (state_of m).content has at in (one, λ ours. one)
  keeps_limit (between remains) limit other is at leaves has =
      let one : remains.book.ours ≡ true → other ≡ limit = λ ours. next_limit m limit other (leaves ours) has in (one, one)
  keeps_limit place limit other is at leaves has = grind arith

  pub would_open : (blocks : ℕ) (array : Array) (stamp : ℕ) (place : Place prompt_disk) → IsAt place (Stopped m)
      → ((book_at place).ours ≡ true → EachCut (FoundAt (state_of m).size place) (state_of m))
      → WouldOpen (state_of m) place blocks array stamp
  would_open blocks array stamp (before_first book) is found = record { book = book; opens = refl; ours = refl; stands = inl is.1 }
  would_open blocks array stamp (between remains) is found = next_opens m remains blocks array stamp found
  would_open blocks array stamp place is found = grind (arith, on)

-- ---- what a start leaves, where it has no disk

-- where each image had one limit, each still has it
limited_start : (before after : Sim) (leaves : StartLeaves (state_of before) (state_of after)) (limit : ℕ) (book : Book)
    → OpensOn (state_of before) book → book.ours ≡ true → LeavesLimit limit (Stopped before) → LeavesLimit limit (Stopped after)
limited_start before after leaves limit book on ours has =
    rw leaves.bounded.moments.size_stays
    (at_exit (HasLimit (state_of before).size limit) (state_of before) (state_of after) (is_sound after)
    (start_keeps_limit (state_of before) (state_of after) limit leaves
    (λ image cut. with_shape (state_of before).size image (on.ours ours image cut)) has))

-- ---- why a start is refused

-- a cause that is possible over a book, told by the count of all refusals
counted : (before after : Sim) (book : Book) (fault : StartFault) → IsCauseFor book (state_of before) (state_of after) fault
    → MayRefuse book (0 + (state_of before).failures) (state_of after).failures fault
counted before after book fault h = grind arith

-- ---- where lives stand after a start

-- a life has begun
record LifeBegun (device : Device) (refused : Bool) (here : Standing prompt_disk) (new : DiskState) : Type 0 where
  there : Standing prompt_disk
  life : LifeBegins (presented device) refused here there
  fits : FitsLives (lives_at device new) there
  ours : (book_at there.place).ours ≡ (book_at here.place).ours
  limit_stays : (book_at here.place).ours ≡ true → there.limit ≡ here.limit

module _ (device : Device) (m : Sim) (on : m.power.off ≡ false) where
  -- where a life has begun, lives go there
  goes_to : (new : DiskState) (refused : Bool) (here : Standing prompt_disk) → FitsLives (lives_at device (Stopped m)) here
      → LifeBegun device refused here new → LivesGoTo (lives_at device new) here (starts ∷ []) [] (refused ∷ [])
  goes_to new refused here fits b = record {
    there = b.there;
    run = one_run device refused here b.there starts []
        (refl, starts_at m on (presented device) refused here.place here b.there fits.is_at b.life);
    fits = b.fits;
    ours = b.ours;
    limit_stays = b.limit_stays;
  }

  -- power goes in a start
  power_went : (new : DiskState) → ComesAfter m (medium_in new) → (medium_in new).power.off ≡ true → (here : Standing prompt_disk)
      → (here.armed ≡ false → m.power.fuse ≡ None) → (book : Book) (limit : ℕ) → Opens here.place book
      → book.ours ≡ (book_at here.place).ours → KeepsLimit here.place here.limit limit
      → (book.ours ≡ true → LeavesLimit here.limit new) → (book.ours ≡ true → EachCut (MayFind (state_in new).size book) (state_in new))
      → LifeBegun device (has_refused (state_of m) (state_in new)) here new
  power_went new follows is_off here unfused book limit opens ours keeps limited found =
      let power = keeps_power m (medium_in new) follows in
      record {
        there = record here { place = off (record { book = book; in_progress = None }) };
        life = record {
          book = book;
          opens = opens;
          limit = limit;
          keeps_limit = keeps;
          begins = inr (record {
            fused = armed_then here m (medium_in new) follows unfused on is_off;
            cause = some_refused (state_of m) (state_in new) (power.goes_off on is_off).1;
            after = refl;
          });
        };
        fits = record {
          is_at = is_off;
          limit_at = tt;
          limited = limited;
          found = found;
          unfused = λ e. power.no_fuse_stays (unfused e);
        };
        ours = ours;
        limit_stays = λ ours. refl;
      }

  -- ---- the start has a disk

  module _ (disk : DiskValue Sim) (is_opened : IsOpened (state_of m) (state_of disk.unit.store.medium) device disk)
      (leaves : StartLeaves (state_of m) (state_of disk.unit.store.medium)) (follows : ComesAfter m disk.unit.store.medium) where
    abbrev new : Sim
    new = disk.unit.store.medium

    begun : (here : Standing prompt_disk) → FitsLives (lives_at device (Stopped m)) here
        → LifeBegun device (has_refused (state_of m) (state_of new)) here (Running disk)
    begun here fits =
        let w = would_open m on (blocks_of disk.unit.store.cached) is_opened.store.array is_opened.store.next here.place fits.is_at
        fits.found in
        let fitted = fits_opened (state_of m) (state_of new) device disk is_opened w.book w.stands in
        let keeps = keeps_limit m on here.place here.limit (unit_limit disk.unit) fits.is_at fits.limit_at fits.limited is_opened.limit in
        let limited = λ (ours : w.book.ours ≡ true). limit_between_calls (state_of new) disk.unit w.book fitted ours in
        let found = λ (ours : w.book.ours ≡ true). between_calls (state_of new) disk.unit w.book fitted ours in
        let says : started (unit_limit disk.unit) (presented device) w.book ≡ over disk w.book =
        sym (ap (λ (l : Line). on_line l (unit_state disk.unit w.book)) is_opened.line
        ∙ ap (λ (u : UnitState). on_line (at_rest device.packet_size) u) (is_opened.unit w.book)) in
        elim (cases_Bool new.power.off) [
          | inl is_off ↦ power_went (Running disk) follows is_off here fits.unfused w.book (unit_limit disk.unit) w.opens w.ours keeps.0
              (λ ours. rw (keeps.1 (sym w.ours ∙ ours)) at (limited ours))
              found
          | inr still ↦ record {
            there = record here { place = runs (started (unit_limit disk.unit) (presented device) w.book); limit = unit_limit disk.unit };
            life = record { book = w.book; opens = w.opens; limit = unit_limit disk.unit; keeps_limit = keeps.0; begins = inl refl };
            fits = record {
              is_at = record { on = still; says = says; fits = fitted };
              limit_at = refl;
              limited = limited;
              found = found;
              unfused = λ e. (keeps_power m new follows).no_fuse_stays (fits.unfused e);
            };
            ours = w.ours;
            limit_stays = keeps.1;
          }
        ]

    pub start_has_disk : LivesGoOn (lives_at device (Stopped m)) (starts ∷ []) [] (lives_at device (Running disk))
    start_has_disk =
        called_once device starts [] (Stopped m) (Running disk)
        (refl, subst (λ (b : Bool). StartsIn b device m (Running disk)) (sym on) (is_opened, record { leaves = leaves; follows = follows }))
        follows on leaves.bounded.moments.size_stays
        (λ here fits. goes_to (Running disk) (has_refused (state_of m) (state_of new)) here fits (begun here fits))

  -- ---- the start has no disk

  module _ (after : Sim) (leaves : StartLeaves (state_of m) (state_of after)) (follows : ComesAfter m after) where
    would : (here : Standing prompt_disk) → FitsLives (lives_at device (Stopped m)) here
        → WouldOpen (state_of m) here.place (book_at here.place).blocks (book_at here.place).opening (book_at here.place).stamp
    would here fits =
        let book = book_at here.place in would_open m on book.blocks book.opening book.stamp here.place fits.is_at fits.found

    -- power went in it
    pub start_is_cut : after.power.off ≡ true → LivesGoOn (lives_at device (Stopped m)) (starts ∷ []) [] (lives_at device (Stopped after))
    start_is_cut is_off =
        called_once device starts [] (Stopped m) (Stopped after)
        (refl, subst (λ (b : Bool). StartsIn b device m (Stopped after)) (sym on) (record { leaves = leaves; follows = follows }, is_off))
        follows on leaves.bounded.moments.size_stays
        (λ here fits.
        let w = would here fits in
        goes_to (Stopped after) (has_refused (state_of m) (state_of after)) here fits
        (power_went (Stopped after) follows is_off here fits.unfused w.book here.limit w.opens w.ours
        (keeps_same m on here.place here.limit fits.is_at)
        (λ ours. limited_start m after leaves here.limit w.book (stands_ours w ours) ours (fits.limited (sym w.ours ∙ ours)))
        (λ ours. leaves.finds w.book (stands_ours w ours) ours (none_flushed m (flushed_at m on here.place fits.is_at)))))

    -- it was refused, and the power is on
    pub start_is_refused : after.power.off ≡ false → (fault : StartFault) → IsNotOpened (state_of m) (state_of after) fault
        → LivesStop (lives_at device (Stopped m)) [] [] fault (lives_at device (Stopped after))
    start_is_refused still fault h = record {
      refusals = [];
      at = m;
      moves = (refl, refl);
      start = record { called = record { leaves = leaves; follows = follows }; cause = h; on = still };
      in_start = has_refused (state_of m) (state_of after);
      counted = refl;
      refused = one_counted (state_of m).failures (state_of after).failures (keeps_power m after follows).refused_stay;
      caused = caused_once m after [] follows on;
      goes = λ here fits.
          let w = would here fits in
          record {
            there = here;
            run = (refl, refl);
            book = w.book;
            opens = w.opens;
            ours = w.ours;
            cause = λ ours. counted m after w.book fault (h.possible w.book (stands_ours w ours));
            limited = λ ours. limited_start m after leaves here.limit w.book (stands_ours w ours) ours (fits.limited (sym w.ours ∙ ours));
            found = λ ours. leaves.finds w.book (stands_ours w ours) ours (none_flushed m (flushed_at m on here.place fits.is_at));
          };
      rests = refl;
      on = still;
      size_stays = leaves.bounded.moments.size_stays;
      device_stays = refl;
    }

-- ---- nothing is started

module _ (device : Device) where
  -- a disk runs already
  pub start_of_disk : (disk : DiskValue Sim) → LivesGoOn (lives_at device (Running disk)) (starts ∷ []) [] (lives_at device (Running disk))
  start_of_disk disk = stays device (Running disk) starts [] (refl, refl) (λ here fits. grind arith)

  -- power is off already
  pub start_without_power : (m : Sim) → m.power.off ≡ true
      → LivesGoOn (lives_at device (Stopped m)) (starts ∷ []) [] (lives_at device (Stopped m))
  start_without_power m is_off = stays device (Stopped m) starts [] (refl, rw is_off refl) (λ here fits. grind arith)

-- ---- whatever the medium holds

-- a disk runs already
pub begun_running : (disk : DiskValue Sim) → HasBegun (Running disk) (Running disk)
begun_running disk = record { started = tt; stood = λ m e on. absurd (cc e) }

-- there is no power
pub begun_without_power : (m after : Sim) → after.power.off ≡ true → HasBegun (Stopped m) (Stopped after)
begun_without_power m after is_off = record { started = is_off; stood = λ other e on. on_or_off after.power.off on is_off }

-- a disk was started, on contents that stood for something
pub begun_with : (m : Sim) (disk : DiskValue Sim) (device : Device) → IsOpened (state_of m) (state_of disk.unit.store.medium) device disk
    → HasBegun (Stopped m) (Running disk)
begun_with m disk device h = record {
  started = tt;
  stood = λ other e on.
      let same : m ≡ other = cc e in
      let book : Book = opened (blocks_of disk.unit.store.cached) h.store.array h.store.next false in
      subst (λ (x : Sim). Stands (state_of x).size (state_of x).content) same
      (knows_images.stands (state_of m).size book (state_of m).content h.store.opens.stands);
}
