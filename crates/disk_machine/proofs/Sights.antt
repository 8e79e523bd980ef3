-- A READ lacks sectors, or none.
use Rattle.std.proofs.Common.{◌≡◌, ◌↔◌, ◌+◌, ◌-◌, inl, inr, ℕ, Bool, true, false, IsTrue, Option, Some, None, arith, sym, ◌∙◌, ap, refl}
use Rattle.std.{proofs.lemmas.Bool.Decides.nat_tests, specs.Prelude.{MatchOption, is_some, not}}
use Rattle.window.specs.{Window.{Window}, declared.ask.DeviceRead.DeviceRead}
use Rattle.window.specs.Sight.{AreMissing, AreInSight}
use Rattle.scsi_unit.specs.declared.reading.HomeSectors.{HomeSectors}
use Rattle.disk_machine.specs.{Machine.{Machine, has_refused}, Wanted.{HasPlace, Lacks, LacksNone}}
use Rattle.disk_machine.specs.declared.lack.Lack.TheVariants as lack

-- what is missing is not all in sight
missing_unseen : (m : Window) (home count first missing : ℕ) → AreMissing m home count first missing → AreInSight m home count → ⊥
missing_unseen m home count first missing is seen =
    let last = first + missing - 1 in
    let begins = seen first (grind (arith, is.begin)) (omega (arith, is.end, is.some)) in
    let ends = seen last (grind (arith, is.begin, is.some)) (omega (arith, is.end, is.some)) in
    grind (arith, nat_tests, begins, ends, is.begin, is.some, is.unseen)

-- and it is one range
same_missing : (m : Window) (home count : ℕ) (a b : DeviceRead) → AreMissing m home count a.first a.count
    → AreMissing m home count b.first b.count → a ≡ b
same_missing m home count a b one other =
    let first : a.first ≡ b.first = one.begin ∙ sym other.begin in
    let size : a.count ≡ b.count = omega (arith, first, one.end, other.end) in λ i. record { first = first i; count = size i }

some_inj : (a b : HomeSectors) (x : Option HomeSectors) → x ≡ Some a → x ≡ Some b → a ≡ b
some_inj a b x one other = let e = sym one ∙ other in cc

pub lacks_or_none : (s : Machine) (home : DeviceRead) → LacksNone s → Lacks s home → ⊥
lacks_or_none s home none lacks = elim (none lacks.needed lacks.needs) [
  | inl seen ↦ missing_unseen _ _ _ _ _ lacks.missing seen
  | inr unread ↦ lacks.tried (unread.2 ∙ ap (λ (h : DeviceRead). lack.Unread h) (same_missing _ _ _ _ _ unread.1 lacks.missing))
]

told_lacking : (s : Machine) (told : Option DeviceRead) (none : Bool) → is_some told ≡ not none
    → MatchOption told (LacksNone s) (Lacks s) → IsTrue none ↔ LacksNone s
told_lacking s None true same is = (λ told. is, λ lacks. refl)
told_lacking s None false same is = absurd (let e = same in cc)
told_lacking s (Some home) true same is = absurd (let e = same in cc)
told_lacking s (Some home) false same is = (λ told. absurd (let e = told in cc), λ none. absurd (lacks_or_none s home none is))

-- a step that reads has what it needs where it lacks none
pub has_place : (s : Machine) (needed : HomeSectors) (told : Option DeviceRead) (none : Bool) → has_refused s.asked ≡ false
    → is_some told ≡ not none → MatchOption told (LacksNone s) (Lacks s) → IsTrue none ↔ HasPlace s (Some needed)
has_place s needed told none fine same is =
    let one = told_lacking s told none same is in (
      λ told. inl (one.0 told),
      λ place. elim place [ inl none ↦ one.1 none | inr refused ↦ absurd (let a = sym fine ∙ refused in cc) ],
    )
