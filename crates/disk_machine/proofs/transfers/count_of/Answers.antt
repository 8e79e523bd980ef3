use Rattle.std.proofs.{Common.{◌≡◌, ◌⊎◌, ◌<◌, ◌≤◌, ◌+◌, ◌-◌, ◌*◌, ◌/◌, ◌↔◌, ℕ, inl, inr, arith}, Math.Nat.{mul-le-mul_right, mod-lt}}
use Rattle.std.proofs.{Math.Nat.{div-mul-le_self, div-add-mod}, lemmas.Bool.cases_lt}
use Rattle.disk_machine.proofs.transfers.count_of.Goals as goal

-- as many packets as are begun
begun : (number most bytes : ℕ) → 0 < most → 0 < bytes
    → (number < (bytes - 1) / most + 1) ↔ ((number ≡ 0) ⊎ (number * most < bytes))
begun number most bytes some any = (
  λ low.
      let few : number ≤ (bytes - 1) / most = omega arith in
      inr (omega (arith, mul-le-mul_right most few, div-mul-le_self (bytes - 1) most)),
  λ has. elim (cases_lt ((bytes - 1) / most) number) [
    | inr few ↦ omega (arith, few)
    | inl more ↦ elim has [
      | inl none ↦ absurd (omega (arith, none, more))
      | inr inside ↦
          let far : (bytes - 1) / most + 1 ≤ number = omega (arith, more) in
          absurd (omega (arith, mul-le-mul_right most far, div-add-mod (bytes - 1) most, mod-lt (bytes - 1) some, inside))
    ]
  ],
)

pub returns : goal.returns
returns c = λ number. begun number c.args.most c.args.bytes c.requires (omega (arith, c.if-bytes-eq0.false))
