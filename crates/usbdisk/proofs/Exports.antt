-- An export, call by call.
use Rattle.std.proofs.Common.{ℕ, List, [], ◌∷◌, ◌++◌, false, true, sym, ◌∙◌, ap, arith, append_assoc}
use Rattle.window.specs.{declared.call.DeviceCall.DeviceCall, declared.call.DeviceCall.TheVariants.Flush}
use Rattle.journal.specs.declared.super_sector.Super.{Super}
use Rattle.device_file.specs.Asked.{AsksInOrder, Told, asked_for, refused}
use Rattle.device_file.specs.{Copied.{some_writes, moved_calls, IsCopied, IsCopiedInPart, NamesCall}, declared.copying.CopyFault.CopyFault}
use Rattle.device_file.{specs.declared.fault.FileFault.FileFault, proofs.Puts.{answered_twice, in_order_all}}
use Rattle.usbdisk.specs.images.Exporting.{going_home, HasBlocks, HasSomeBlocks, NamesRead}
use Rattle.device_file.specs.declared.copying.CopyFault.TheVariants as fault

named_read : (why : CopyFault) → NamesCall why → NamesRead why
named_read (fault.From why) named = named
named_read (fault.To why) named = tt

module _ (sizes : Super) (waiting : List DeviceCall) where
  abbrev moved : List DeviceCall
  moved = moved_calls sizes.home sizes.blocks waiting

  -- the copy ended early
  pub copy_stopped : {holds : ℕ → List ℕ → Type 0} {refuses : ℕ → ℕ → Type 0} {a b : Told} (why : CopyFault)
      → IsCopiedInPart holds refuses sizes.home sizes.blocks 0 a b why → HasSomeBlocks holds refuses sizes waiting a b why
  copy_stopped why f = record {
    blocks = f.blocks;
    count_is = f.count_is;
    were_read = f.were_read;
    part = f.part;
    rest = f.rest ++ going_home sizes waiting;
    parts = append_assoc (some_writes 0 f.blocks) moved (Flush ∷ [])
        ∙ ap (λ (l : List DeviceCall). l ++ going_home sizes waiting) f.parts
        ∙ append_assoc f.part f.rest (going_home sizes waiting);
    told_is = f.told_is;
    misses = f.misses;
    named = named_read why f.named;
  }

  -- what goes home was asked for in part
  pub home_stopped : {holds : ℕ → List ℕ → Type 0} {refuses : ℕ → ℕ → Type 0} {a b e : Told} (why : FileFault)
      → IsCopied holds sizes.home sizes.blocks 0 a b
      → AsksInOrder (going_home sizes waiting) false b e → HasSomeBlocks holds refuses sizes waiting a e (fault.To why)
  home_stopped {a = a} why f g = record {
    blocks = f.blocks;
    count_is = omega (arith, f.count_is);
    were_read = f.were_read;
    part = some_writes 0 f.blocks ++ g.part;
    rest = g.rest;
    parts = append_assoc (some_writes 0 f.blocks) moved (Flush ∷ [])
        ∙ ap (λ (l : List DeviceCall). some_writes 0 f.blocks ++ l) g.parts
        ∙ sym (append_assoc (some_writes 0 f.blocks) g.part g.rest);
    told_is = g.told_is ∙ ap (λ (t : Told). refused (asked_for g.part t)) f.told_is
        ∙ answered_twice false (some_writes 0 f.blocks) g.part a;
    misses = tt;
    named = tt;
  }

  -- all of it was
  pub home_all : {holds : ℕ → List ℕ → Type 0} {a b e : Told} → IsCopied holds sizes.home sizes.blocks 0 a b
      → AsksInOrder (going_home sizes waiting) true b e → HasBlocks holds sizes waiting a e
  home_all {a = a} f g = record {
    blocks = f.blocks;
    count_is = f.count_is;
    were_read = f.were_read;
    told_is = in_order_all g ∙ ap (λ (t : Told). asked_for (going_home sizes waiting) t) f.told_is
        ∙ answered_twice true (some_writes 0 f.blocks) (going_home sizes waiting) a
        ∙ ap (λ (l : List DeviceCall). asked_for l a) (sym (append_assoc (some_writes 0 f.blocks) moved (Flush ∷ [])));
  }
