-- Each turn that retires the oldest durable record: what the log and its medium hold after it.
use Rattle.std.proofs.Common.{◌≡◌, ◌≢◌, ℕ, ◌+◌, ◌-◌, ◌<◌, ◌≤◌, List, [], ◌∷◌, length, get_or, drop, refl, length-drop, add-zero, true}
use Rattle.std.proofs.{Common.{false, map, slice_index, drop-cons, arith, rules}, lemmas.Bool.{cases_eq, cases_lt}, lemmas.List.drop-map}
use Rattle.std.proofs.{lemmas.List.length-map, Math.ListN.get_or-map, lemmas.List.Elements.All-drop}
use Rattle.medium.specs.{Medium.{State, Image, Holds, Gains, Only, Stays, IsSound}, Moments.{EachCut, LeavesOnly}}
use Rattle.medium.proofs.Moments.{each_write, each_flush, content_has}
use Rattle.journal.specs.{Places.{sectors_of, first_home}, Sectors.IsHead, Record.{Entry, numbers_of}, Formats.{layout_of, IsWhole}}
use Rattle.journal.specs.Staged.{IsHomed, with_less}
use Rattle.journal.proofs.{SectorsRead.begun_is, Formats.{laws_of, most_is}, Wholeness.records-hide, Engine.{IsWholeIn-same, IsKept}}
use Rattle.journal.proofs.Engine.{kept_home, kept_head}
use Rattle.redo_log.specs.{Value.{LogValue, Ahead, IsAway, IsSentHome, of_oldest, ahead_of, settled}, Held.{AreSized, View, with_record}}
use Rattle.redo_log.specs.Held.{view_retired, made_of, turned_of, needed_of, image_view, MayLeave, Safe, AreHome, HasHead, IsGuarded}
use Rattle.redo_log.specs.{Held.HoldsView, Halfway.WritesOnly, Told.{copy_of, home_of, brought, kept_of}, Steps.HoldsCounted}
use Rattle.redo_log.proofs.HeldLog.{moments_have, Stands, hides_behind, front, has_before, guard_logged, newest, with_newest, same_head}
use Rattle.redo_log.proofs.HeldLog.{safe_here, guard_leaves, Stores-stays, many, named, count, under_count, stands_now, goes_on, counts_of}
use Rattle.redo_log.proofs.{HeldLog.{kept_is, retired_kept}, RecordSteps.{needed_one, IsLog, retired_of, one_waits, nothing_home}}
use Rattle.redo_log.proofs.{RecordSteps.not_homed, KeptCopies.{retired_copies, copy_kept_is}}
use Rattle.journal.specs.Staged.{View as ImageView}

module _ {log : LogValue} (is : IsLog log) (live : log.dead ≡ false) (owed : 0 < of_oldest log) {old : State}
    (sound : IsSound old) {view : View} (hv : HoldsView log old view) where
  abbrev pub oldest : List Entry
  oldest = get_or view.records 0 []

  abbrev v : ImageView
  v = image_view log.shape log.head view

  waits : 0 < length view.records
  waits = omega (arith, many hv, one_waits is owed)

  fit : length view.under_way ≤ (layout_of log.shape.format).most
  fit = omega (arith, is.few, under_count hv, most_is log.shape.format)

  -- ---- the head is written past it
  module _ (one : of_oldest log ≡ 1) {bytes : List ℕ} (head_is : IsHead (log.head + 1) bytes) (new : State) where
    one_now : view.ours ≡ true → EachCut (λ image. Safe log.shape log.head view (made_of log) image × IsHomed v image) old
    one_now ours image cut =
        let g = hv.guards live ours image cut in
        let f = g.flushed (grind (arith, one)) in (newest g f.0, f.1)

    past : {before image : Image} → IsHomed v before → Holds 1 bytes before image
        → IsKept (layout_of log.shape.format) v (with_less v) before image
    past homed write = kept_head _ (laws_of _) v is.sized.behind fit waits head_is homed write

    stands_past : Stands log.shape (log.head + 1) (view_retired 1 view) log.steps_left (made_of log)
    stands_past =
        let stands = stands_now hv is in grind (arith, stands, stands.slots, length-drop 1 view.records, waits)

    -- at each moment a cut leaves what it might leave before, and with the new head the same array
    pub head_leaves : WritesOnly 1 bytes old new → view.ours ≡ true → LeavesOnly (MayLeave old.size log view) old new
    head_leaves adds ours = moments_have (MayLeave old.size log view) 1 bytes old new adds
        (λ mid gains. each_write _ (MayLeave old.size log view) old mid 1 bytes sound gains (one_now ours)
        (λ image both. guard_leaves log {retire = 0} hv.fits (stands_now hv is)
        (with_newest both.0 (λ none. absurd (omega (arith, none)))))
        (λ before image write both.
        let g = with_newest {retire = 0} ((past both.1 write).guarded both.0) (λ none. absurd (omega (arith, none))) in
        let first = IsWholeIn-same _ (laws_of _) log.shape is.sized.some before image
        (λ x low high. write.elsewhere x (λ e. omega (arith, low, e))) _ _ (rw add-zero at (both.0.stored.keeps.whole 0 waits)) in
        let more = has_before {size = old.size} oldest {view = with_record (view_retired 1 view)} first in
        grind (arith, guard_logged (retired_of log) hv.fits stands_past g, more, drop-cons view.records 0 [] waits, one)))

    -- then the log has one record less, where this guards it
    past_held : new.size ≡ old.size → Holds 1 bytes old.content new.content
        → (view.ours ≡ true → IsGuarded (retired_of log) (view_retired 1 view) new) → HoldsCounted log new view
    past_held same_size wrote guards then stepped =
        let fits : sectors_of log.shape ≤ new.size = omega (arith, same_size, hv.fits) in
        let fewer = length-drop 1 view.records in
        let durable : drop 1 log.waiting ≡ map (λ r. numbers_of r) (drop 1 view.records) =
        rw hv.durable (drop-map (λ r. numbers_of r) 1 view.records) in
        let firsts = retired_kept log.shape.format view.records view.under_way log.firsts hv.firsts waits in
        let copies = retired_copies log.keeps view.records view.under_way log.copies hv.copies waits in
        let each_sized = All-drop AreSized 1 view.records hv.each_sized in
        let leaves : view.ours ≡ true → EachCut (MayLeave new.size (retired_of log) (view_retired 1 view)) new =
        λ ours image cut. guard_leaves (retired_of log) fits stands_past (guards ours image cut) in
        let s = hv.stores live in
        let stored = (past (λ i inside. s.copied i (omega (arith, inside, one, count hv 0)) inside) wrote).stored s.stored in
        let copied : AreHome log.shape (get_or (drop 1 view.records) 0 []) (turned_of (retired_of log)) new.content =
        λ i low high. absurd (nothing_home log i low (omega (arith, high, counts_of (drop 1 view.records) durable 0))) in
        let held : HoldsView (retired_of log) new (view_retired 1 view) = search (rules, arith) in
        grind (arith, one, stepped.some, stepped.last, held)

    -- nothing of the next one is flushed at home yet
    needs_more : needed_of (retired_of log) ≢ 1
    needs_more e = omega (arith, needed_one (retired_of log) e, not_homed log)

    -- where it is durable, the log has one record less
    pub flushed_held : new.size ≡ old.size → Holds 1 bytes old.content new.content
        → Only new.content new.may_leave → HoldsCounted log new view
    flushed_held same_size wrote only = past_held same_size wrote (λ ours.
        let both = content_has _ old sound (one_now ours) in
        each_flush _ new.content new only (with_newest ((past both.1 wrote).guarded both.0) (λ is. absurd (needs_more is))))

    -- where it is not flushed yet, a slot is free besides the one that is passed
    pub ahead_held : log.next - log.head < log.ring → new.size ≡ old.size → Gains 1 bytes old.may_leave new.may_leave
        → Holds 1 bytes old.content new.content → HoldsCounted log new view
    ahead_held besides same_size gains wrote = past_held same_size wrote (λ ours.
        each_write _ _ old new 1 bytes sound gains (one_now ours)
        (λ image both. record {
          stamp = log.head;
          passed = get_or view.records 0 [] ∷ [];
          behind = refl;
          room = λ _. omega (arith, besides, is.ring, hv.next, length-drop 1 view.records, waits);
          safe = rw (← drop-cons view.records 0 [] waits) both.0;
          flushed = λ is. absurd (needs_more is);
        })
        (λ before image write both. with_newest ((past both.1 write).guarded both.0) (λ is. absurd (needs_more is))))

  -- ---- its blocks are flushed at home
  pub covered_held : of_oldest log ≡ 2 → (new : State) → new.size ≡ old.size → Stays old.content new.content
      → Only old.content new.may_leave → HoldsCounted log new view
  covered_held two new same_size stays only then stepped =
      let none : log.head - log.head ≡ 0 = omega arith in
      let s = hv.stores live in
      let there : length oldest ≤ turned_of log = omega (arith, two, count hv 0) in
      rw (stepped.flush two, none) (goes_on hv is log.steps_left (log.retire_steps_left - 1) log.ahead new (omega arith) same_size live
      (Stores-stays s _ (turned_of (settled log)) new.content stays (omega arith) (λ i low high. omega (arith, high, there)))
      (λ ours. each_flush _ old.content new only (with_newest (safe_here sound s (hv.guards live ours))
      (λ _ i inside. s.copied i (omega (arith, inside, there)) inside))))

  -- ---- the next block goes home: its copy is read, or it is kept
  abbrev pub block : Entry
  block = get_or oldest (turned_of log) (0, [])

  module _ (below : IsAway log) where
    inside : turned_of log < length oldest
    inside = omega (arith, below, is.owed_most, count hv 0)

    pub brought_is : brought log (old.content (copy_of log)) ≡ block.1
    brought_is =
        let t = turned_of log in
        let whole : IsWhole log.shape old.content log.head oldest = rw add-zero at ((hv.stores live).stored.keeps.whole 0 waits) in
        begun_is log.shape.format log.shape old.content log.head oldest whole t inside _
        (kept_is log.shape.format view.records view.under_way log.firsts hv.firsts 0 t waits inside) _ refl

    pub kept_block_is : log.keeps ≡ true → kept_of log ≡ block.1
    kept_block_is keeps =
        copy_kept_is log.keeps view.records view.under_way log.copies hv.copies keeps hv.each_sized 0 (turned_of log) waits inside

  module _ (below : IsAway log) {bytes : List ℕ} (same : bytes ≡ block.1) (new : State)
      (adds : WritesOnly (home_of log) bytes old new) where
    -- where it goes
    abbrev to : ℕ
    to = first_home log.shape + block.0

    block_is : (P : ℕ → List ℕ → Type 0) → P (home_of log) bytes → P to block.1
    block_is P there =
        let t = turned_of log in
        let number : slice_index (get_or log.waiting 0 []) t ≡ (get_or oldest t (0, [])).0 =
        cc (named hv 0, get_or-map (λ (e : Entry). e.0) oldest t (0, [])) in
        rw same at (rw number at there)

    home_each : view.ours ≡ true → (mid : State) → Gains to block.1 old.may_leave mid.may_leave → {left : ℕ} → left ≢ 1
        → EachCut (HasHead log.shape log.head view (made_of log) left) mid
    home_each ours mid gains not = each_write _ _ old mid to block.1 sound gains (hv.guards live ours)
        (λ image g. same_head g g.safe (λ one. absurd (not one)))
        (λ before image write g. same_head g
        ((kept_home _ (laws_of _) (front g) is.sized.behind fit block.0
        (hides_behind g.passed _ _ (records-hide view.records 0 _ waits (inside below))) write).guarded g.safe)
        (λ one. absurd (not one)))

    -- at each moment a cut leaves what it might leave before
    pub home_leaves : view.ours ≡ true → LeavesOnly (MayLeave old.size log view) old new
    home_leaves ours = moments_have (MayLeave old.size log view) to block.1 old new
        (block_is (λ place bytes. WritesOnly place bytes old new) adds)
        (λ mid gains image cut.
        guard_leaves log {retire = 0} hv.fits (stands_now hv is) (home_each ours mid gains (omega arith) image cut))

    -- the log that counts it holds what the medium does
    module _ (same_size : new.size ≡ old.size)
        (done : Holds (home_of log) bytes old.content new.content) where
      home_held : (ahead : Ahead) → needed_of (record log { retire_steps_left = log.retire_steps_left - 1; ahead = ahead }) ≢ 1
          → HoldsView (record log { retire_steps_left = log.retire_steps_left - 1; ahead = ahead }) new view
      home_held ahead not =
          let s = hv.stores live in
          let write = block_is (λ place bytes. Holds place bytes old.content new.content) done in
          goes_on hv is log.steps_left (log.retire_steps_left - 1) ahead new (omega arith) same_size live
          (record {
            stored = (kept_home _ (laws_of _) v is.sized.behind fit _
                (records-hide view.records 0 _ waits (inside below)) write).stored s.stored;
            copied = λ j low high.
                let up = (rw (named hv 0) at (is.each 0 [] (one_waits is owed)).rising) j (turned_of log) in
                let number = λ (i : ℕ). get_or-map (λ (e : Entry). e.0) oldest i (0, []) in
                let long = length-map oldest (λ (e : Entry). e.0) in
                grind (arith, cases_eq j (turned_of log), write, s.copied j, up, long, number j, number (turned_of log), inside below);
          })
          (λ ours. home_each ours new (block_is (λ place bytes. WritesOnly place bytes old new) adds).sets not)

      -- and a record whose blocks go home by retire steps needs its flush
      pub sent_held : (then : LogValue) → IsSentHome log then → (then.head ≡ log.head) × HoldsView then new view
      sent_held then home =
          let noted : LogValue = record log { retire_steps_left = log.retire_steps_left - 1; ahead = ahead_of log } in
          let last = λ (last : of_oldest log ≡ 3). home_held (ahead_of log) (λ one. omega (arith, needed_one noted one, last)) in
          let more = home_held log.ahead (λ one. omega (arith, needed_one (settled log) one, below, is.away below)) in
          grind (arith, cases_lt 3 (of_oldest log), home.more, home.last, last, more)

      -- so do those that are counted as retire steps
      pub home_counted : HoldsCounted log new view
      home_counted then stepped =
          let held = sent_held then (stepped.home below) in
          let none : then.head - log.head ≡ 0 = omega (arith, held.0) in rw none held.1
