-- Copies that go on.
use Rattle.std.proofs.Common.{◌≡◌, ℕ, ◌+◌, ◌*◌, ◌/◌, ◌≤◌, List, [], ◌++◌, length, refl, sym, ◌∙◌, ap, subst, arith}
use Rattle.std.proofs.Common.{length-append, true, false, Result, Ok, Err, OnOk, IfErr}
use Rattle.window.specs.declared.call.DeviceCall.{DeviceCall}
use Rattle.device_file.specs.Asked.{AsksInOrder, Told, answered}
use Rattle.device_file.specs.InRuns.{Takes}
use Rattle.device_file.specs.Reads.{AreRead, AreReadFrom, sectors_in}
use Rattle.device_file.specs.Copied.{some_writes, asked_until, is_written, IsCopied, IsCopiedInPart, MissesNext, TakesBlocks}
use Rattle.device_file.specs.declared.fault.FileCall.TheVariants as call
use Rattle.device_file.specs.declared.copying.CopyFault.{CopyFault}
use Rattle.device_file.specs.declared.copying.CopyFault.TheVariants as fault
use Rattle.device_file.specs.declared.fault.FileFault.{FileFault}
use Rattle.device_file.proofs.Joined.{takes_none, takes_through}
use Rattle.device_file.proofs.Puts.{some_writes-append, read-append, read_sectors, length-sectors_in, in_order_all}

until_is : (why : CopyFault) (part : List DeviceCall) (t : Told) → answered (is_written (Err why)) part t ≡ asked_until why part t
until_is (fault.From f) part t = refl
until_is (fault.To f) part t = refl

-- what was read before counts too
misses_through : (refuses : ℕ → ℕ → Type 0) (first n k count read all : ℕ) (result : Result (Unit {0}) CopyFault) → n + k ≤ count
    → n + read ≡ all → IfErr result (MissesNext refuses (first + n) k read) → IfErr result (MissesNext refuses first count all)
misses_through refuses first n k count read all (Ok done) few is next = tt
misses_through refuses first n k count read all (Err (fault.From why)) few is (more, some, within, refused) =
    (more, some, omega (arith, few, is, within), subst (λ (s : ℕ). refuses s more) (omega (arith, is)) refused)
misses_through refuses first n k count read all (Err (fault.To why)) few is next = tt

all_through : (n k x y z : ℕ) (result : Result (Unit {0}) CopyFault) → OnOk result (x ≡ k) → y ≡ n + x → OnOk result (n + k ≡ z)
    → OnOk result (y ≡ z)
all_through n k x y z (Ok done) same is all = omega (arith, same, is, all)
all_through n k x y z (Err why) same is all = tt

counted : (count : ℕ) (bytes : List ℕ) → length bytes ≡ 512 * count → length (sectors_in (length bytes / 512) bytes) ≡ count
counted count bytes size = omega (arith, length-sectors_in (length bytes / 512) bytes, size)

module _ {D : Type 0} {told : D → Told} {at_once : D → List DeviceCall → D → Type 0} {sectors : D → ℕ} {holds : ℕ → List ℕ → Type 0}
    {refuses : ℕ → ℕ → Type 0} where
  -- none yet
  pub blocks_none : (first at : ℕ) (to : D) (waits : List DeviceCall)
      → TakesBlocks told at_once sectors holds refuses first 0 at to to waits waits (Ok tt)
  blocks_none first at to waits = record {
    blocks = [];
    count_is = omega arith;
    all_read = refl;
    were_read = tt;
    takes = takes_none to waits;
    misses = tt;
    named = tt;
  }

  -- some, and then others
  pub blocks_through : {first n k at : ℕ} {a b e : D} {u v w : List DeviceCall} {result : Result (Unit {0}) CopyFault} (count : ℕ)
      → n + k ≤ count → OnOk result (n + k ≡ count)
      → TakesBlocks told at_once sectors holds refuses first n at a b u v (Ok tt)
      → TakesBlocks told at_once sectors holds refuses (first + n) k (at + n) b e v w result
      → TakesBlocks told at_once sectors holds refuses first count at a e u w result
  blocks_through {first = first} {n = n} {k = k} {at = at} {a = a} {e = e} {u = u} {w = w} {result = result} count few all f g =
      let both : length (f.blocks ++ g.blocks) ≡ n + length g.blocks = omega (arith, length-append f.blocks g.blocks, f.all_read) in
      let writes : some_writes at (f.blocks ++ g.blocks) ≡ some_writes at f.blocks ++ some_writes (at + n) g.blocks =
      some_writes-append at f.blocks g.blocks
      ∙ ap (λ (m : ℕ). some_writes at f.blocks ++ some_writes (at + m) g.blocks) f.all_read in
      record {
        blocks = f.blocks ++ g.blocks;
        count_is = omega (arith, both, few, g.count_is);
        all_read = all_through n k (length g.blocks) (length (f.blocks ++ g.blocks)) count result g.all_read both all;
        were_read = read-append holds first f.blocks g.blocks f.were_read
            (subst (λ (m : ℕ). AreReadFrom holds (first + m) g.blocks) (sym f.all_read) g.were_read);
        takes = rw writes (takes_through f.takes g.takes);
        misses = misses_through refuses first n k count (length g.blocks) (length (f.blocks ++ g.blocks)) result few (sym both) g.misses;
        named = g.named;
      }

  -- one read was refused
  pub blocks_unread : (first at count : ℕ) (to : D) (waits : List DeviceCall) (why : FileFault) → 1 ≤ count → refuses first count
      → why.call ≡ call.Read → TakesBlocks told at_once sectors holds refuses first count at to to waits waits (Err (fault.From why))
  blocks_unread first at count to waits why some refused named = record {
    blocks = [];
    count_is = omega arith;
    all_read = tt;
    were_read = tt;
    takes = takes_none to waits;
    misses = (count, some, omega arith, subst (λ (s : ℕ). refuses s count) (omega arith) refused);
    named = named;
  }

  -- or it gave these
  module _ {at : ℕ} {a b : D} {u v : List DeviceCall} (first count : ℕ) (bytes : List ℕ) (size : length bytes ≡ 512 * count)
      (read : AreRead holds first bytes) where
    pub blocks_taken : Takes told at_once sectors (some_writes at (sectors_in (length bytes / 512) bytes)) a b u v true
        → TakesBlocks told at_once sectors holds refuses first count at a b u v (Ok tt)
    blocks_taken takes = record {
      blocks = sectors_in (length bytes / 512) bytes;
      count_is = omega (arith, counted count bytes size);
      all_read = counted count bytes size;
      were_read = read_sectors holds first (length bytes / 512) bytes read;
      takes = takes;
      misses = tt;
      named = tt;
    }

    pub blocks_refused : (why : FileFault) → why.call ≡ call.Write
        → Takes told at_once sectors (some_writes at (sectors_in (length bytes / 512) bytes)) a b u v false
        → TakesBlocks told at_once sectors holds refuses first count at a b u v (Err (fault.To why))
    blocks_refused why named takes = record {
      blocks = sectors_in (length bytes / 512) bytes;
      count_is = omega (arith, counted count bytes size);
      all_read = tt;
      were_read = read_sectors holds first (length bytes / 512) bytes read;
      takes = takes;
      misses = tt;
      named = named;
    }

  -- what was asked in the end
  pub copied_all : {first count at : ℕ} {a b e : D} {v : List DeviceCall}
      (f : TakesBlocks told at_once sectors holds refuses first count at a b [] v (Ok tt))
      → AsksInOrder (some_writes at f.blocks) true (told a) (told e) → IsCopied holds first count at (told a) (told e)
  copied_all f g = record { blocks = f.blocks; count_is = f.all_read; were_read = f.were_read; told_is = in_order_all g }

  pub copied_part : {first count at : ℕ} {a b e : D} {v : List DeviceCall} (why : FileFault)
      (f : TakesBlocks told at_once sectors holds refuses first count at a b [] v (Ok tt)) → why.call ≡ call.Write
      → AsksInOrder (some_writes at f.blocks) false (told a) (told e)
      → IsCopiedInPart holds refuses first count at (told a) (told e) (fault.To why)
  copied_part why f named g = record {
    blocks = f.blocks;
    count_is = f.count_is;
    were_read = f.were_read;
    part = g.part;
    rest = g.rest;
    parts = g.parts;
    told_is = g.told_is;
    misses = tt;
    named = named;
  }

  pub copied_until : {first count at : ℕ} {a b : D} {v : List DeviceCall} (why : CopyFault)
      → TakesBlocks told at_once sectors holds refuses first count at a b [] v (Err why)
      → IsCopiedInPart holds refuses first count at (told a) (told b) why
  copied_until {a = a} why f = record {
    blocks = f.blocks;
    count_is = f.count_is;
    were_read = f.were_read;
    part = f.takes.part;
    rest = f.takes.left;
    parts = f.takes.parts;
    told_is = f.takes.told_is ∙ until_is why f.takes.part (told a);
    misses = f.misses;
    named = f.named;
  }
