-- Outboxes of which first parts are taken out, one after the other.
use Rattle.std.proofs.Common.{◌≡◌, ℕ, ◌+◌, ◌<◌, Bool, true, List, [], ◌∷◌, ◌++◌, length, refl, sym, ◌∙◌, ap, append_assoc, arith, None}
use Rattle.std.proofs.Common.{if◌then◌else◌, length-append, false, Some, Result, Ok, Err, OnOk, IfErr}
use Rattle.window.specs.OutboxMedium.{first_of}
use Rattle.window.specs.declared.call.DeviceCall.{DeviceCall}
use Rattle.window.specs.Window.{Window, take_first, without_first}
use Rattle.window.specs.declared.call.DeviceCall.TheVariants.{Write, Flush}
use Rattle.window.specs.declared.call.SectorWrite.{SectorWrite}
use Rattle.device_file.specs.Asked.{writes_of, answered}
use Rattle.device_file.specs.Asked as file
use Rattle.device_file.specs.Outbox.{taken_out, LetsGo, IsCarriedOut, EndIn, Begins}
use Rattle.device_file.specs.declared.fault.FileCall.{FileCall}
use Rattle.device_file.specs.declared.fault.FileCall.TheVariants as call
use Rattle.device_file.specs.declared.fault.FileFault.{FileFault}

pub without : (w : Window) (call : DeviceCall) (rest : List DeviceCall) → w.outbox ≡ call ∷ rest
    → without_first w ≡ taken_out (call ∷ []) rest w
without w call rest waits = ap (λ (l : List DeviceCall). take_first l w) waits

pub none_waits : (calls : List DeviceCall) → first_of calls ≡ None → calls ≡ []
none_waits [] none = refl
none_waits (call ∷ calls) none = absurd (cc)

-- what is taken out behind another part
pub through : (p q : List DeviceCall) (u v w : Window) → LetsGo p u v → LetsGo q v w → LetsGo (p ++ q) u w
through p q u v w f g = record {
  waited = f.waited ∙ ap (λ (l : List DeviceCall). p ++ l) g.waited ∙ sym (append_assoc p q w.outbox);
  is = g.is ∙ ap (λ (m : Window). taken_out q w.outbox m) f.is
      ∙ ap (λ (l : List DeviceCall). record u { seen = record u.seen { told = record u.seen.told { taken = l } }; outbox = w.outbox })
      (append_assoc u.seen.told.taken p q);
}

abbrev pub carried_through : (good : Bool) (a b e : file.Told) (u v w : Window) → IsCarriedOut true a b u v → IsCarriedOut good b e v w
    → IsCarriedOut good a e u w
carried_through good a b e u v w f g = record {
  part = f.part ++ g.part;
  lets_go = through f.part g.part u v w f.lets_go g.lets_go;
  asked = g.asked ∙ ap (λ (l : List DeviceCall). l ++ g.part) f.asked ∙ append_assoc a.asked f.part g.part;
  refusals = g.refusals ∙ ap (λ (n : ℕ). if good then n else n + 1) f.refusals;
  opening_stays = g.opening_stays ∙ f.opening_stays;
}

pub ends_through : (p q : List DeviceCall) (kind : FileCall) → EndIn q kind → EndIn (p ++ q) kind
ends_through p q kind (before, last, are, is) = (
  p ++ before,
  last,
  ap (λ (l : List DeviceCall). p ++ l) are ∙ sym (append_assoc p before (last ∷ [])),
  is,
)

-- some writes end in one
writes_end : (first : ℕ) (blocks : List (List ℕ)) → 0 < length (writes_of first blocks) → EndIn (writes_of first blocks) call.Write
writes_end first [] some = absurd (omega (arith, some))
writes_end first (block ∷ []) some = ([], Write (record { sector = first; block = block }), refl, refl)
writes_end first (block ∷ next ∷ blocks) some =
    ends_through (Write (record { sector = first; block = block }) ∷ []) (writes_of (first + 1) (next ∷ blocks)) call.Write
    (writes_end (first + 1) (next ∷ blocks) (omega arith))

pub some_writes_end : (first : ℕ) (blocks : List (List ℕ)) (w v : Window) → LetsGo (writes_of first blocks) w v
    → length v.outbox < length w.outbox → EndIn (writes_of first blocks) call.Write
some_writes_end first blocks w v lets fewer = writes_end first blocks (omega (
  arith,
  fewer,
  ap (λ (l : List DeviceCall). length l) lets.waited,
  length-append (writes_of first blocks) v.outbox,
))

pub begins : (calls : List DeviceCall) (w : SectorWrite) → first_of calls ≡ Some (Write w) → Begins calls
begins [] w is = absurd (cc)
begins (Write v ∷ calls) w is = tt
begins (Flush ∷ calls) w is = absurd (cc)

-- the call that waits first
pub lets_first : (w v : Window) (call : DeviceCall) (rest : List DeviceCall) → w.outbox ≡ call ∷ rest → v ≡ without_first w
    → LetsGo (call ∷ []) w v
lets_first w v call rest waits is =
    let gone : v ≡ taken_out (call ∷ []) rest w = is ∙ without w call rest waits in
    let left : v.outbox ≡ rest = ap (λ (m : Window). m.outbox) gone in
    record {
      waited = waits ∙ ap (λ (l : List DeviceCall). call ∷ l) (sym left);
      is = gone ∙ ap (λ (l : List DeviceCall). taken_out (call ∷ []) l w) (sym left);
    }

pub asked_at : (good : Bool) (part : List DeviceCall) (a b : file.Told) → b ≡ answered good part a → b.asked ≡ a.asked ++ part
asked_at true part a b is = ap (λ (t : file.Told). t.asked) is
asked_at false part a b is = ap (λ (t : file.Told). t.asked) is

pub refusals_at : (good : Bool) (part : List DeviceCall) (a b : file.Told) → b ≡ answered good part a
    → b.refusals ≡ (if good then a.refusals else a.refusals + 1)
refusals_at true part a b is = ap (λ (t : file.Told). t.refusals) is
refusals_at false part a b is = ap (λ (t : file.Told). t.refusals) is

pub opening_at : (good : Bool) (part : List DeviceCall) (a b : file.Told) → b ≡ answered good part a → b.opening ≡ a.opening
opening_at true part a b is = ap (λ (t : file.Told). t.opening) is
opening_at false part a b is = ap (λ (t : file.Told). t.opening) is

-- a part that was taken out and asked for
abbrev pub carried_at : (good : Bool) (part : List DeviceCall) (a b : file.Told) (w v : Window) → LetsGo part w v → b ≡ answered good part a
    → IsCarriedOut good a b w v
carried_at good part a b w v lets is = record {
  part = part;
  lets_go = lets;
  asked = asked_at good part a b is;
  refusals = refusals_at good part a b is;
  opening_stays = opening_at good part a b is;
}

pub named_at : (result : Result (Unit {0}) FileFault) (part : List DeviceCall) (kind : FileCall) → EndIn part kind
    → IfErr result (λ fault. fault.call ≡ kind) → IfErr result (λ fault. EndIn part fault.call)
named_at (Ok u) part kind ends named = tt
named_at (Err why) part kind (before, last, are, is) named = (before, last, are, named ∙ is)

pub on_ok : (result : Result (Unit {0}) FileFault) (P : Type 0) → P → OnOk result P
on_ok (Ok u) P holds = holds
on_ok (Err why) P holds = tt
