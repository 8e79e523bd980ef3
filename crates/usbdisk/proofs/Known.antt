-- What a writer holds, where it is known.
use Rattle.std.proofs.{Common.{ℕ, List, [], ◌++◌, Option, sym, subst, append_assoc, append-nil}, KnownBytes.Appends-trans}
use Rattle.std.specs.Io.KnownBytes.{Appends}
use Rattle.usbdisk.specs.console.Streams.{AppendsUpTo, AppendsSome}

-- all of one text, and then all of another and a first part of more
pub AppendsUpTo-more : (old mid new : Option (List ℕ)) (text more bytes : List ℕ) → Appends old mid text → AppendsUpTo mid new more bytes
    → AppendsUpTo old new (text ++ more) bytes
AppendsUpTo-more old mid new text more bytes first next = record {
  written = next.written;
  rest = next.rest;
  parts = next.parts;
  missing = next.missing;
  appended = subst (λ (l : List ℕ). Appends old new l) (sym (append_assoc text more next.written))
      (Appends-trans old mid new text (more ++ next.written) first next.appended);
}

-- all of one text, and a first part of another
pub AppendsSome-more : (old mid new : Option (List ℕ)) (text bytes : List ℕ) → Appends old mid text → AppendsSome mid new bytes
    → AppendsUpTo old new text bytes
AppendsSome-more old mid new text bytes first next =
    subst (λ (l : List ℕ). AppendsUpTo old new l bytes) (append-nil text) (AppendsUpTo-more old mid new text [] bytes first next)
