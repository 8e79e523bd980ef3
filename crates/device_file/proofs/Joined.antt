-- Calls that a file is asked in runs, and then others.
use Rattle.std.proofs.Common.{◌≡◌, ◌<◌, ◌≤◌, ◌+◌, ℕ, zero, suc, List, [], ◌∷◌, ◌++◌, length, refl, sym, ◌∙◌, ap, subst, inl, inr}
use Rattle.std.proofs.Common.{append_assoc, ⊎_elim, Result, Ok, Err, true, false, Bool, arith, length-append}
use Rattle.std.specs.Prelude.{IsErrAnd, OnErr, is_ok}
use Rattle.std.proofs.lemmas.List.{append-nil, append_cancel_right}
use Rattle.window.specs.declared.call.DeviceCall.{DeviceCall}
use Rattle.window.specs.declared.call.DeviceCall.TheVariants.{Write, Flush}
use Rattle.device_file.specs.Asked.{AsksFor, AsksInOrder, Told, answered, writes_of}
use Rattle.device_file.specs.declared.fault.FileCall.{FileCall}
use Rattle.device_file.specs.declared.fault.FileFault.{FileFault}
use Rattle.window.specs.declared.call.SectorWrite.{SectorWrite}
use Rattle.std.specs.Bool.{OnTrue}
use Rattle.device_file.specs.declared.run.Run.{Run}
use Rattle.device_file.specs.Copied.{moved_call, moved_calls, some_write, some_writes, waiting_in}
use Rattle.device_file.specs.Reads.{sectors_in}
use Rattle.medium.specs.Writes.{sector_of}
use Rattle.device_file.specs.InRuns.{AsksInRuns, AsksRun, AsksRuns, IsAskedInRuns, IsLongest, IsNext, IsNoMore, Takes}
use Rattle.device_file.proofs.InRuns.{count_of}
use Rattle.device_file.proofs.Puts.{answered_twice, asked_at, asked_none, moved_calls-append, moved_one, parts_through}
use Rattle.device_file.proofs.Puts.{sectors_first, sectors_more}

pub on_err : {E P : Type 0} (result : Result (Unit {0}) E) → P → OnErr result P
on_err (Ok done) holds = tt
on_err (Err why) holds = holds

-- a refusal that is handed on
pub err_is : {T E : Type 0} {why : E} (result : Result T E) → IsErrAnd result (λ e. e ≡ why) → result ≡ Err why
err_is (Ok value) is = absurd is
err_is (Err why) is = ap Err is

-- what comes behind a call that is not the next
not_next : (sector : ℕ) (calls left : List DeviceCall) → ¬ IsNext sector (calls ++ left) → ¬ IsNext sector calls
not_next sector [] left other = λ next. next
not_next sector (Write w ∷ calls) left other = other
not_next sector (Flush ∷ calls) left other = λ next. next

longest_without : (first : ℕ) (blocks : List (List ℕ)) (calls left : List DeviceCall) → IsLongest first blocks (calls ++ left)
    → IsLongest first blocks calls
longest_without first blocks calls left longest = record {
  most = longest.most;
  ends = ⊎_elim inl (λ other. inr (not_next (first + length blocks) calls left other)) longest.ends;
}

-- a call that a run takes when it has none is alone in it
pub took_alone : (old new : Run) (call : DeviceCall) (took : Bool) → old.blocks.items ≡ [] → took ≡ true
    → OnTrue took (waiting_in new ≡ waiting_in old ++ call ∷ []) → call ∷ [] ≡ waiting_in new
took_alone old new call true empty is taken =
    sym (taken ∙ ap (λ (blocks : List (List ℕ)). writes_of old.first blocks ++ call ∷ []) empty)
took_alone old new call false empty is taken = absurd (cc)

-- a run that takes a call no more has some
pub took_none : (blocks : List (List ℕ)) (took : Bool) → took ≡ false → (blocks ≡ [] → took ≡ true) → 0 < length blocks
took_none [] took is first = absurd (let so = first refl in cc)
took_none (block ∷ blocks) took is first = omega arith

pub no_more_goes : (first : ℕ) (blocks : List (List ℕ)) (w : SectorWrite) → length blocks ≤ 256 → IsNoMore first blocks w.sector
    → (behind : List DeviceCall) → IsLongest first blocks (Write w ∷ behind)
no_more_goes first blocks w few none behind = record { most = few; ends = none }

module _ {D : Type 0} (at_once : D → List DeviceCall → D → Type 0) where
  pub none_asked : (a : D) (calls : List DeviceCall) → AsksInRuns at_once a a calls calls
  none_asked a calls = (0, (refl, refl))

  pub one_run : (a b : D) (first : ℕ) (blocks : List (List ℕ)) (behind : List DeviceCall) → 0 < length blocks
      → IsLongest first blocks behind → at_once a (writes_of first blocks) b
      → AsksInRuns at_once a b (writes_of first blocks ++ behind) behind
  one_run a b first blocks behind some longest once = (
    1,
    (
      a,
      writes_of first blocks ++ behind,
      (refl, refl),
      record {
        part = writes_of first blocks;
        parts = refl;
        run = inr (record { first = first; blocks = blocks; calls_are = refl; some = some; longest = longest });
        once = once;
      },
    ),
  )

  in_turn : (n : ℕ) (a b e : D) (u v w : List DeviceCall) → AsksInRuns at_once a b u v → AsksRuns at_once n b e v w
      → AsksInRuns at_once a e u w
  in_turn zero a b e u v w first (is, same) =
      subst (λ (d : D). AsksInRuns at_once a d u w) (sym is) (subst (λ (l : List DeviceCall). AsksInRuns at_once a b u l) (sym same) first)
  in_turn (suc n) a b e u v w first (mid, left, before, run) =
      let so = in_turn n a b mid u v left first before in
      (suc so.0, (mid, left, so.1, run))

  -- two such stories are one
  pub runs_through : (a b e : D) (u v w : List DeviceCall) → AsksInRuns at_once a b u v → AsksInRuns at_once b e v w
      → AsksInRuns at_once a e u w
  runs_through a b e u v w first next = in_turn next.0 a b e u v w first next.1

  without : (a b : D) (calls rest left : List DeviceCall) (run : AsksRun at_once a b calls (rest ++ left))
      → AsksRun at_once a b (run.part ++ rest) rest
  without a b calls rest left run = record {
    part = run.part;
    parts = refl;
    run = ⊎_elim inl (λ longest. inr (record {
      first = longest.first;
      blocks = longest.blocks;
      calls_are = longest.calls_are;
      some = longest.some;
      longest = longest_without longest.first longest.blocks rest left longest.longest;
    })) run.run;
    once = run.once;
  }

  strip : (n : ℕ) (a b : D) (calls rest left : List DeviceCall) → AsksRuns at_once n a b calls (rest ++ left)
      → (asked : List DeviceCall) × (calls ≡ asked ++ left) × AsksRuns at_once n a b asked rest
  strip zero a b calls rest left (is, same) = (rest, sym same, (is, refl))
  strip (suc n) a b calls rest left (mid, between, before, run) =
      let is : between ≡ (run.part ++ rest) ++ left = run.parts ∙ sym (append_assoc run.part rest left) in
      let so = strip n a mid calls (run.part ++ rest) left (subst (λ (l : List DeviceCall). AsksRuns at_once n a mid calls l) is before) in
      (so.0, so.1, (mid, run.part ++ rest, so.2, without mid b between rest left run))

  -- those that were asked for, without the others
  pub runs_alone : (a b : D) (calls part left : List DeviceCall) → calls ≡ part ++ left → AsksInRuns at_once a b calls left
      → AsksInRuns at_once a b part []
  runs_alone a b calls part left parts runs =
      let so = strip runs.0 a b calls [] left runs.1 in
      let same = append_cancel_right so.0 part left (sym so.1 ∙ parts) in
      (runs.0, subst (λ (l : List DeviceCall). AsksRuns at_once runs.0 a b l []) same so.2)

module _ {D : Type 0} {told : D → Told} {at_once : D → List DeviceCall → D → Type 0} {sectors : D → ℕ} where
  -- nothing was to be taken
  pub takes_none : (a : D) (waits : List DeviceCall) → Takes told at_once sectors [] a a waits waits true
  takes_none a waits = record {
    part = [];
    left = waits;
    parts = append-nil waits;
    told_is = asked_none (told a);
    all = λ good. refl;
    some = λ bad. absurd (cc);
    runs = λ behind. subst (λ (l : List DeviceCall). AsksInRuns at_once a a (l ++ behind) (waits ++ behind)) (sym (append-nil waits))
        (none_asked at_once a (waits ++ behind));
    size = refl;
  }

  -- some were, and then others
  pub takes_through : {c d u v w : List DeviceCall} {a b e : D} {good : Bool} → Takes told at_once sectors c a b u v true
      → Takes told at_once sectors d b e v w good → Takes told at_once sectors (c ++ d) a e u w good
  takes_through {c = c} {d = d} {u = u} {v = v} {a = a} {b = b} {e = e} {good = good} f g = record {
    part = f.part ++ g.part;
    left = g.left;
    parts = parts_through c d f.part g.part u v g.left (f.parts ∙ ap (λ (l : List DeviceCall). f.part ++ l) (f.all refl)) g.parts;
    told_is = g.told_is ∙ ap (λ (t : Told). answered good g.part t) f.told_is ∙ answered_twice good f.part g.part (told a);
    all = g.all;
    some = λ bad. omega (arith, g.some bad, length-append f.part g.part);
    runs = λ behind.
        let begin : (u ++ c) ++ (d ++ behind) ≡ (u ++ (c ++ d)) ++ behind = simp append_assoc in
        let middle : f.left ++ (d ++ behind) ≡ (v ++ d) ++ behind =
        ap (λ (l : List DeviceCall). l ++ (d ++ behind)) (f.all refl) ∙ sym (append_assoc v d behind) in
        runs_through at_once a b e ((u ++ (c ++ d)) ++ behind) ((v ++ d) ++ behind) (g.left ++ behind)
        (subst (λ (l : List DeviceCall). AsksInRuns at_once a b l ((v ++ d) ++ behind)) begin
        (subst (λ (l : List DeviceCall). AsksInRuns at_once a b ((u ++ c) ++ (d ++ behind)) l) middle (f.runs (d ++ behind))))
        (g.runs behind);
    size = g.size ∙ f.size;
  }

  -- where it refused, whatever waits
  pub takes_leaves : {c u v w : List DeviceCall} {a e : D} → Takes told at_once sectors c a e u v false
      → Takes told at_once sectors c a e u w false
  takes_leaves f = record {
    part = f.part;
    left = f.left;
    parts = f.parts;
    told_is = f.told_is;
    all = λ good. absurd (cc);
    some = f.some;
    runs = f.runs;
    size = f.size;
  }

  -- they were the first of more
  takes_before : {c u v w : List DeviceCall} {a e : D} (d : List DeviceCall) → Takes told at_once sectors c a e u v false
      → Takes told at_once sectors (c ++ d) a e u w false
  takes_before {c = c} {u = u} {a = a} {e = e} d f = record {
    part = f.part;
    left = f.left ++ d;
    parts = sym (append_assoc u c d) ∙ ap (λ (l : List DeviceCall). l ++ d) f.parts ∙ append_assoc f.part f.left d;
    told_is = f.told_is;
    all = λ good. absurd (cc);
    some = f.some;
    runs = λ behind.
        let begin : (u ++ c) ++ (d ++ behind) ≡ (u ++ (c ++ d)) ++ behind = simp append_assoc in
        subst (λ (l : List DeviceCall). AsksInRuns at_once a e l ((f.left ++ d) ++ behind)) begin
        (subst (λ (l : List DeviceCall). AsksInRuns at_once a e ((u ++ c) ++ (d ++ behind)) l) (sym (append_assoc f.left d behind))
        (f.runs (d ++ behind)));
    size = f.size;
  }

  -- what waits in a run is written, and one call more waits
  pub takes_next : (a b : D) (first : ℕ) (blocks : List (List ℕ)) (call : DeviceCall) (good : Bool) → 0 < length blocks
      → ((behind : List DeviceCall) → IsLongest first blocks (call ∷ behind)) → at_once a (writes_of first blocks) b
      → told b ≡ answered good (writes_of first blocks) (told a) → sectors b ≡ sectors a
      → Takes told at_once sectors (call ∷ []) a b (writes_of first blocks) (call ∷ []) good
  takes_next a b first blocks call good some longest once is size = record {
    part = writes_of first blocks;
    left = call ∷ [];
    parts = refl;
    told_is = is;
    all = λ good. refl;
    some = λ bad. omega (arith, some, count_of first blocks);
    runs = λ behind. subst (λ (l : List DeviceCall). AsksInRuns at_once a b l (call ∷ behind))
        (sym (append_assoc (writes_of first blocks) (call ∷ []) behind))
        (one_run at_once a b first blocks (call ∷ behind) some (longest behind) once);
    size = size;
  }

  -- one call more waits
  pub takes_waiting : (a : D) (call : DeviceCall) (waited waits : List DeviceCall) → waits ≡ waited ++ call ∷ []
      → Takes told at_once sectors (call ∷ []) a a waited waits true
  takes_waiting a call waited waits is = record {
    part = [];
    left = waited ++ call ∷ [];
    parts = refl;
    told_is = asked_none (told a);
    all = λ good. sym is;
    some = λ bad. absurd (cc);
    runs = λ behind. none_asked at_once a ((waited ++ call ∷ []) ++ behind);
    size = refl;
  }

  -- where nothing waited, it was asked in order
  pub part_in_order : {c v : List DeviceCall} {a e : D} → Takes told at_once sectors c a e [] v false
      → AsksInOrder c false (told a) (told e)
  part_in_order f =
      record { part = f.part; rest = f.left; parts = f.parts; told_is = f.told_is; all = λ good. absurd (cc); some = f.some }

  -- and then for what waits
  pub all_in_order : {c v : List DeviceCall} {a b e : D} {kind : FileCall} {result : Result (Unit {0}) FileFault}
      → Takes told at_once sectors c a b [] v true → AsksFor told sectors v kind b e result → OnErr result (0 < length v)
      → AsksInOrder c (is_ok result) (told a) (told e)
  all_in_order {c = c} {v = v} {a = a} {result = result} f g some = record {
    part = c;
    rest = [];
    parts = sym (append-nil c);
    told_is = g.asked ∙ ap (λ (t : Told). answered (is_ok result) v t) f.told_is ∙ answered_twice (is_ok result) f.part v (told a)
        ∙ ap (λ (l : List DeviceCall). answered (is_ok result) l (told a)) (sym is);
    all = λ good. refl;
    some = λ bad. omega (arith, refused result some bad, ap length is, length-append f.part v);
  }
    where
      is : c ≡ f.part ++ v
      is = f.parts ∙ ap (λ (l : List DeviceCall). f.part ++ l) (f.all refl)

      refused : (r : Result (Unit {0}) FileFault) → OnErr r (0 < length v) → is_ok r ≡ false → 0 < length v
      refused (Ok done) some bad = absurd (cc)
      refused (Err why) some bad = some

  -- by some runs
  pub part_asked : {c v : List DeviceCall} {a e : D} {good : Bool} → Takes told at_once sectors c a e [] v good
      → IsAskedInRuns told at_once a e
  part_asked {c = c} {a = a} {e = e} {good = good} f = record {
    calls = f.part;
    asked = ap (λ (t : Told). t.asked) f.told_is ∙ asked_at good f.part (told a);
    runs = runs_alone at_once a e c f.part f.left f.parts
        (subst (λ (l : List DeviceCall). AsksInRuns at_once a e l f.left) (append-nil c)
        (subst (λ (l : List DeviceCall). AsksInRuns at_once a e (c ++ []) l) (append-nil f.left) (f.runs [])));
  }

  pub all_asked : {c v : List DeviceCall} {a b e : D} {kind : FileCall} {result : Result (Unit {0}) FileFault}
      → Takes told at_once sectors c a b [] v true → AsksFor told sectors v kind b e result → AsksInRuns at_once b e v []
      → IsAskedInRuns told at_once a e
  all_asked {c = c} {v = v} {a = a} {b = b} {e = e} {result = result} f g next = record {
    calls = f.part ++ v;
    asked = ap (λ (t : Told). t.asked) g.asked ∙ asked_at (is_ok result) v (told b)
        ∙ ap (λ (t : Told). t.asked ++ v) f.told_is ∙ append_assoc (told a).asked f.part v;
    runs = runs_through at_once a b e (f.part ++ v) v []
        (subst (λ (l : List DeviceCall). AsksInRuns at_once a b l v)
        (append-nil c ∙ f.parts ∙ ap (λ (l : List DeviceCall). f.part ++ l) (f.all refl))
        (subst (λ (l : List DeviceCall). AsksInRuns at_once a b (c ++ []) l) (append-nil f.left ∙ f.all refl) (f.runs []))) next;
  }

  -- a sector more
  pub sector_takes : {a b e : D} {u v w : List DeviceCall} {good : Bool} (first i : ℕ) (bytes block : List ℕ)
      → block ≡ sector_of bytes i → Takes told at_once sectors (some_writes first (sectors_in i bytes)) a b u v true
      → Takes told at_once sectors (some_write (first + i) block) b e v w good
      → Takes told at_once sectors (some_writes first (sectors_in (i + 1) bytes)) a e u w good
  sector_takes first i bytes block same f g = rw (sectors_more first i bytes, ← same) (takes_through f g)

  -- and not all of it
  pub sector_refused : {a b e : D} {u v w : List DeviceCall} (first i n : ℕ) (bytes block : List ℕ) → i < n
      → block ≡ sector_of bytes i → Takes told at_once sectors (some_writes first (sectors_in i bytes)) a b u v true
      → Takes told at_once sectors (some_write (first + i) block) b e v w false
      → Takes told at_once sectors (some_writes first (sectors_in n bytes)) a e u w false
  sector_refused first i n bytes block below same f g =
      let (more, whole) = sectors_first first (i + 1) n bytes (omega (arith, below)) in
      rw whole (takes_before more (sector_takes first i bytes block same f g))

  -- a call more was moved
  pub moved_takes : {a b e : D} {u v w : List DeviceCall} {good : Bool} (first count : ℕ) (gone : List DeviceCall) (call : DeviceCall)
      → Takes told at_once sectors (moved_calls first count gone) a b u v true
      → Takes told at_once sectors (moved_call first count call) b e v w good
      → Takes told at_once sectors (moved_calls first count (gone ++ call ∷ [])) a e u w good
  moved_takes first count gone call f g = rw (moved_one first count gone call) (takes_through f g)

  pub moved_refused : {a b e : D} {u v w : List DeviceCall} (first count : ℕ) (all gone rest : List DeviceCall) (call : DeviceCall)
      → all ≡ gone ++ call ∷ rest → Takes told at_once sectors (moved_calls first count gone) a b u v true
      → Takes told at_once sectors (moved_call first count call) b e v w false
      → Takes told at_once sectors (moved_calls first count all) a e u w false
  moved_refused first count all gone rest call split f g =
      let parts : moved_calls first count all ≡ moved_calls first count (gone ++ call ∷ []) ++ moved_calls first count rest =
      ap (λ (l : List DeviceCall). moved_calls first count l) (split ∙ sym (append_assoc gone (call ∷ []) rest))
      ∙ moved_calls-append first count (gone ++ call ∷ []) rest in
      rw parts (takes_before (moved_calls first count rest) (moved_takes first count gone call f g))
