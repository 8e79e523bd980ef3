use Rattle.std.proofs.Common.{◌≡◌, ℕ, List, ◌++◌, Option, Some, None, take, rules, arith, length-append}
use Rattle.std.{proofs.KnownBytes.{Consumes-nil, Consumes-trans}, specs.Io.KnownBytes.{Consumes, Keeps}}
use Rattle.usbdisk.proofs.{ServedLines.taken-none, runner.read.read_into.Goals.{in-Ok+else-count-limit+in-Ok-extend_from_slice, in-Err}}
use Rattle.usbdisk.proofs.runner.read.read_into.Goals as goal

-- a read that failed took nothing
taken-kept : (was mid now : Option (List ℕ)) (read : List ℕ) → Consumes was mid read → Keeps mid now → Consumes was now read
taken-kept None mid now read taken kept = tt
taken-kept (Some all) None now read taken kept = absurd taken
taken-kept (Some all) (Some left) None read taken kept = absurd kept
taken-kept (Some all) (Some left) (Some same) read taken kept = rw kept taken

pub returns-then-count-limit-clause-stopped : goal.returns-then-count-limit-clause-stopped
returns-then-count-limit-clause-stopped g c =
    let more : List ℕ = take c.in-Ok.count c.read.new.buf in (
      c.reads.bytes.items ++ more,
      Consumes-trans _ _ _ _ more c.reads.invariant.taken c.in-Ok.ensures.bytes.0,
      omega (arith, length-append c.reads.bytes.items more, c.in-Ok.ensures.bound.1, c.if-count-limit.true, c.len.ensures),
    )

pub returns-in_default-clause-stopped : goal.returns-in_default-clause-stopped
returns-in_default-clause-stopped g c =
    let more : List ℕ = take c.in-Ok.count c.read.new.buf in
    let sized = c.in-Ok.ensures.bound.1 in
    let some = c.in-Ok.count-test in
    let within = c.if-count-limit.false in
    let counted = c.len.ensures in
    let fits = c.reads.invariant.fits in (
      c.reads.bytes.items ++ more,
      Consumes-trans _ _ _ _ more c.reads.invariant.taken c.in-Ok.ensures.bytes.0,
      omega (arith, length-append c.reads.bytes.items more, sized, within, counted, fits),
      omega (arith, length-append c.reads.bytes.items more, sized, some),
    )

pub reads-init : goal.reads-init
reads-init g c = record {
  fits = rw c.requires (omega arith);
  taken = rw c.requires (Consumes-nil (g.R.Read.remaining c.args.reader.now));
}

pub returns-in-Ok-eq0-clause-read : goal.returns-in-Ok-eq0-clause-read
returns-in-Ok-eq0-clause-read g c =
    let took = rw c.in-Ok-eq0.is at c.read.ensures.bytes in (
      taken-none _ _ _ _ c.read.new.buf c.in-Ok-eq0.field-0 c.reads.invariant.taken took.0 c.in-Ok-eq0.field-0-test,
      c.reads.invariant.fits,
      took.1 c.in-Ok-eq0.field-0-test (search rules),
    )

pub returns-in-Err-2-clause-stopped : goal.returns-in-Err-2-clause-stopped
returns-in-Err-2-clause-stopped g c =
    (c.reads.bytes.items, taken-kept _ _ _ _ c.reads.invariant.taken c.in-Err-2.ensures.bytes, c.reads.invariant.fits)

pub returns-clause-stopped : goal.returns-clause-stopped
returns-clause-stopped g c = (c.reads.bytes.items, c.reads.invariant.taken, c.reads.invariant.fits)

pub reads-preserved : goal.reads-preserved
reads-preserved g c =
    elim c.match-read.branch [
      | in-Ok+else-count-limit+in-Ok-extend_from_slice w ↦ (let more : List ℕ = take w.in-Ok.count c.read.new.buf in
          let items : c.match-read.bytes.items ≡ c.reads.bytes.items ++ more = rw w.bytes-is w.in-Ok-extend_from_slice.ensures.items in
          let sized = w.in-Ok.ensures.bound.1 in
          let within = w.if-count-limit.false in
          let counted = w.len.ensures in
          let fits = c.reads.invariant.fits in
          record {
            fits = rw items (omega (arith, length-append c.reads.bytes.items more, sized, within, counted, fits));
            taken = rw items (Consumes-trans _ _ _ _ more c.reads.invariant.taken w.in-Ok.ensures.bytes.0);
          })
      | in-Err w ↦ record {
        fits = rw w.bytes-is c.reads.invariant.fits;
        taken = rw w.bytes-is (taken-kept _ _ _ _ c.reads.invariant.taken w.in-Err.ensures.bytes);
      }
    ]
