-- The calls of the file behind, part by part.
use Rattle.std.proofs.Common.{◌≡◌, ℕ, List, [], ◌∷◌, ◌++◌, refl, sym, ◌∙◌, ap, subst, inl, inr, Bool, true, false, Result, Ok, Err}
use Rattle.std.proofs.lemmas.List.{append_assoc, append-nil}
use Rattle.std.proofs.lemmas.List.Elements.{All-nil, All-cons, All-append}
use Rattle.medium.specs.FileStory as file
use Rattle.medium.specs.declared.file_call.Access.{Access}
use Rattle.medium.specs.declared.file_call.FileCall.{FileCall}
use Rattle.medium.specs.declared.file_call.FileCall.TheVariants.{Sync}
use Rattle.window.specs.declared.call.DeviceCall.{DeviceCall}
use Rattle.window.specs.declared.call.DeviceCall.TheVariants.{Flush}
use Rattle.device_file.specs.Asked.{Opening, Told, answered, begun, writes_of}
use Rattle.device_file.specs.Carried.{AsksPart, IsCarried, IsOpening, IsPart, Part, asked_in, calls_in}
use Rattle.device_file.specs.FileValue.{PutsRun}
use Rattle.device_file.specs.declared.fault.FileFault.{FileFault}
use Rattle.device_file.specs.declared.run.Run.{Run}

asked_more : (parts : List Part) (part : Part) → asked_in (parts ++ part ∷ []) ≡ asked_in parts ++ part.asked
asked_more [] part = append-nil part.asked
asked_more (p ∷ parts) part =
    ap (λ (l : List DeviceCall). p.asked ++ l) (asked_more parts part) ∙ sym (append_assoc p.asked (asked_in parts) part.asked)

calls_more : (parts : List Part) (part : Part) → calls_in (parts ++ part ∷ []) ≡ calls_in parts ++ part.calls
calls_more [] part = append-nil part.calls
calls_more (p ∷ parts) part =
    ap (λ (l : List FileCall). p.calls ++ l) (calls_more parts part) ∙ sym (append_assoc p.calls (calls_in parts) part.calls)

asked_is : (good : Bool) (calls : List DeviceCall) (t : Told) → (answered good calls t).asked ≡ t.asked ++ calls
asked_is true calls t = refl
asked_is false calls t = refl

opening_stays : (good : Bool) (calls : List DeviceCall) (t : Told) → (answered good calls t).opening ≡ t.opening
opening_stays true calls t = refl
opening_stays false calls t = refl

-- a file that was just opened
pub carried_none : (path : List ℕ) (access : Access) (f : file.Told) → IsOpening access f.asked
    → IsCarried (begun path access) f
carried_none path access f opens = record {
  opened = f.asked;
  opens = opens;
  parts = [];
  each = All-nil IsPart;
  asked = refl;
  calls = sym (append-nil f.asked);
}

-- neighbouring sectors were to be written
pub write_part : (run : Run) (f g : file.Told) (result : Result (Unit {0}) FileFault) → PutsRun run f g result
    → AsksPart (writes_of run.first run.blocks.items) f g
write_part run f g (Ok done) puts =
    let p = puts.ok in
    record {
      part = record { asked = writes_of run.first run.blocks.items; calls = p.calls.calls };
      is = inl (record { first = run.first; blocks = run.blocks.items; asked_is = refl; within = p.calls.each });
      asked_is = refl;
      calls_are = p.calls.asked;
      looks_stay = p.calls.looks_stay;
    }
write_part run f g (Err why) puts =
    let p = puts.err in
    record {
      part = record { asked = writes_of run.first run.blocks.items; calls = p.calls.calls };
      is = inl (record { first = run.first; blocks = run.blocks.items; asked_is = refl; within = p.calls.each });
      asked_is = refl;
      calls_are = p.calls.asked;
      looks_stay = p.calls.looks_stay;
    }

-- all was to be made durable
pub sync_part : (good : Bool) (f g : file.Told) → g ≡ file.answered good Sync f → AsksPart (Flush ∷ []) f g
sync_part good f g is = record {
  part = record { asked = Flush ∷ []; calls = Sync ∷ [] };
  is = inr (record { asked_is = refl; calls_are = refl });
  asked_is = refl;
  calls_are = ap (λ (s : file.Told). s.asked) is;
  looks_stay = ap (λ (s : file.Told). s.looks) is;
}

-- a part more
pub part_carried : (good : Bool) (calls : List DeviceCall) (t : Told) (f g : file.Told) → AsksPart calls f g → IsCarried t f
    → IsCarried (answered good calls t) g
part_carried good calls t f g p c = record {
  opened = c.opened;
  opens = subst (λ (o : Opening). IsOpening o.access c.opened) (sym (opening_stays good calls t)) c.opens;
  parts = c.parts ++ p.part ∷ [];
  each = All-append IsPart c.parts (p.part ∷ []) c.each (All-cons IsPart p.part [] p.is (All-nil IsPart));
  asked = asked_is good calls t ∙ ap (λ (l : List DeviceCall). t.asked ++ l) (sym p.asked_is)
      ∙ ap (λ (l : List DeviceCall). l ++ p.part.asked) c.asked ∙ sym (asked_more c.parts p.part);
  calls = p.calls_are ∙ ap (λ (l : List FileCall). l ++ p.part.calls) c.calls
      ∙ append_assoc c.opened (calls_in c.parts) p.part.calls
      ∙ ap (λ (l : List FileCall). c.opened ++ l) (sym (calls_more c.parts p.part));
}
